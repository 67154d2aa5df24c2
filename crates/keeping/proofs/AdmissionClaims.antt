-- The claim of `specs/AdmissionClaims.antt`: the computed check of starting processes is what it means. Assumes nothing.
use native.Mathlib.Omega.{arith}
use borrow.Author.Tests.{ltb-true, lt-ltb}
use Rattle.net.specs.Records.{address_of, node_at}
use Rattle.keeping.specs.ReachingClaims.{KeepsIsEvery}
use Rattle.keeping.specs.Admission.{admits_process, admits_node, admits_at, admits}
use Rattle.keeping.specs.AdmissionClaims.{AdmitsIsWithin}
use Rattle.net.proofs.Laws.{implies_i, implies_e, all_i, all_e}
use Rattle.keeping.proofs.Reached.{keeps_is_every}

pub admits_is_within : AdmitsIsWithin
unfolding AdmitsIsWithin admits admits_at admits_node admits_process KeepsIsEvery node_at
admits_is_within s few short = (
  λ h. record {
    permitted = λ a slot q used low busy m.
        (keeps_is_every s.code short _ a _).0
        (implies_e _ _
        (all_e 4 _ (implies_e _ _ (all_e 16 _ h a.0 (omega arith)) (lt-ltb a.0 s.addresses used)) slot low)
        busy)
        q
        m;
  },
  λ w. all_i 16 _
      (λ a h. implies_i _ _
      (λ used. all_i 4 _
      (λ slot low. implies_i _ _
      (λ busy. (keeps_is_every s.code short _ _ _).1
      (λ q m. w.permitted (address_of a) slot q (ltb-true a s.addresses used) low busy m))))),
)
