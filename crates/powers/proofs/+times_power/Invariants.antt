use Rattle.powers.proofs.+times_power.Given as goal

abbrev pub decreases-times_power : goal.decreases-times_power
decreases-times_power l = l.e
