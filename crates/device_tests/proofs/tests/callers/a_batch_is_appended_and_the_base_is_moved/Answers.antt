use Rattle.device_tests.proofs.tests.callers.a_batch_is_appended_and_the_base_is_moved.Goals as goal

pub keep_the_last_of_three-requires-clause-journal : goal.keep_the_last_of_three-requires-clause-journal
keep_the_last_of_three-requires-clause-journal g c = c.in_ok-journal.ensures
