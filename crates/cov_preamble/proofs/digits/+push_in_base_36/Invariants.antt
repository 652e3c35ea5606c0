use Rattle.cov_preamble.proofs.digits.+push_in_base_36.Given as goal

abbrev pub decreases-push_in_base_36 : goal.decreases-push_in_base_36
decreases-push_in_base_36 l = l.more
