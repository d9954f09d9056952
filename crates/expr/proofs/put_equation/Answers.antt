-- `expr::put_equation` meets its contract: where the equation fits, its ends stand and its terms between them;
-- where it doesn't, nothing is written.
-- Assumes nothing.
use Rattle.std.proofs.Common.{◌≡◌, ◌+◌, ◌∙◌, sym, ap, length, List, ℕ, true, false}
use Rattle.std.proofs.lemmas.List.Edits.{sets}
use Rattle.expr.specs.Equation.{term_words, put_ends, equation_fits}
use Rattle.expr.specs.Weighted.{terms_of}
use Rattle.expr.proofs.Terms.{length-terms_of}
use Rattle.expr.proofs.Write.{stored-where-fits, same-where-not}
use Rattle.expr.proofs.put_equation.Goals as goal

pub returns-then-put_ends : goal.returns-then-put_ends
returns-then-put_ends c =
    let a = c.args in
    let ts = a.terms.now in
    let n = length-terms_of ts in
    let fits : equation_fits a.at (length (terms_of ts)) (length a.out.now) ≡ true =
    ap (λ (k : ℕ). equation_fits a.at k (length a.out.now)) n ∙ sym c.if-put_ends.ensures.0 in
    c.put_terms.ensures
    ∙ ap (λ (l : List ℕ). sets l (a.at + 1) (term_words (terms_of ts))) (c.if-put_ends.ensures.1 ∙ ap (λ (k : ℕ). put_ends a.at k a.image a.out.now) (sym n))
    ∙ stored-where-fits a.at (terms_of ts) a.image a.out.now fits

pub returns-else-put_ends : goal.returns-else-put_ends
returns-else-put_ends c =
    let a = c.args in
    let ts = a.terms.now in
    let n = length-terms_of ts in
    let not-fits : equation_fits a.at (length (terms_of ts)) (length a.out.now) ≡ false =
    ap (λ (k : ℕ). equation_fits a.at k (length a.out.now)) n ∙ sym c.if-put_ends.ensures.0 in
    c.if-put_ends.ensures.1 ∙ same-where-not a.at (terms_of ts) a.image a.out.now not-fits
