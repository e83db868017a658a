use Rattle.shown_fault.proofs.prefix.+in_prefix.Given as goal

abbrev pub decreases-in_prefix : goal.decreases-in_prefix
decreases-in_prefix l = l.fuel
