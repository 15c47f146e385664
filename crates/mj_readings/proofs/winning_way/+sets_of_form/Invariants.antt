use Rattle.mj_readings.proofs.winning_way.+sets_of_form.Given as goal

abbrev pub decreases-sets_of_form : goal.decreases-sets_of_form
decreases-sets_of_form l = l.number
