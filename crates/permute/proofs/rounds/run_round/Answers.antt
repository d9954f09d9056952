-- `permute::rounds::run_round` meets its contract: the constants and powers, then the matrix.
-- Assumes nothing.
use Rattle.permute.proofs.Run.{times-asked, round_is}
use Rattle.permute.proofs.rounds.run_round.Goals as goal

pub times_matrix-requires : goal.times_matrix-requires
times_matrix-requires c =
    let p = c.requires in
    times-asked _ _ _ _ _ c.mix.ensures p.0.units p.1

pub returns : goal.returns
returns c =
    round_is _ _ _ _ _ c.mix.ensures _ c.times_matrix.ensures
