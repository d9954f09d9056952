use Rattle.inverse.proofs.roots.+times_powers.Given as goal

abbrev pub decreases-times_powers : goal.decreases-times_powers
decreases-times_powers l = l.e
