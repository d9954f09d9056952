-- `ticket::read_line` meets its contract: the parts of a line are asked about one after the other. Assumes nothing.
use mathlib.Core.Path.{sym, ◌∙◌}
use Rattle.ticket.proofs.Read.{not-long, not-blank, not-newline, not-wire, not-grams, all-parts}
use Rattle.ticket.proofs.read_line.Goals as goal

pub returns-then-line-ne-LINE : goal.returns-then-line-ne-LINE
returns-then-line-ne-LINE c = not-long _ c.if-line-ne-LINE.true

pub returns-then-line-ne-BLANK : goal.returns-then-line-ne-BLANK
returns-then-line-ne-BLANK c = not-blank _ c.if-line-ne-BLANK.true

pub returns-then-line-ne-NEWLINE : goal.returns-then-line-ne-NEWLINE
returns-then-line-ne-NEWLINE c = not-newline _ c.if-line-ne-NEWLINE.true

pub returns-in_err-wire : goal.returns-in_err-wire
returns-in_err-wire c = c.from_residual.ensures ∙ not-wire _ (sym c.number_in.ensures ∙ c.in_err-wire.was)

pub returns-in_err-grams : goal.returns-in_err-grams
returns-in_err-grams c = c.from_residual-in_err-grams.ensures ∙ not-grams _ (sym c.number_in-2.ensures ∙ c.in_err-grams.was)

pub returns : goal.returns
returns c =
    all-parts _ c.if-line-ne-LINE.false c.if-line-ne-BLANK.false c.if-line-ne-NEWLINE.false _ _
    (sym c.number_in.ensures ∙ c.in_ok-wire.was) (sym c.number_in-2.ensures ∙ c.in_ok-grams.was)
