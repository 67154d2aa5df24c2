use Rattle.std.proofs.Common.{rules}
use Rattle.names.specs.Faults.{number_of}
use Rattle.names.proofs.LookupLaws.{site_tested, office_tested}
use Rattle.names.proofs.lookup.test.Goals as goal

pub returns-in_err-test_list : goal.returns-in_err-test_list
returns-in_err-test_list c = search (rules, site_tested)

pub returns : goal.returns
unfolding number_of
returns c = search (rules, office_tested)
