use Rattle.std.proofs.Common.{◌-◌, refl, sym, ◌∙◌, arith}
use Rattle.linking.specs.NameTable.{settled_in}
use Rattle.linking.proofs.NameTableLaws.{settle_on, settle_here, settle_last}
use Rattle.linking.proofs.names.settle.Goals as goal

pub loop-hops-init : goal.loop-hops-init
unfolding settled_in
loop-hops-init c = refl

pub returns-in-Here : goal.returns-in-Here
returns-in-Here c = rw (c.in-Here.is) (sym (c.loop-hops.invariant ∙ rw (c.in-Here.is) (settle_here c.args.bodies.now (512 - c.loop-hops.hops) c.in-Here.field-0)))

pub loop-hops-preserved : goal.loop-hops-preserved
loop-hops-preserved c =
    c.loop-hops.invariant ∙ (rw (c.in-Called.is, c.start_from-start.ensures, c.word_at.ensures) (settle_on c.args.bodies.now c.loop-hops.hops c.in-Called.k (omega arith)))

pub returns : goal.returns
returns c = sym (c.loop-hops.invariant ∙ settle_last c.args.bodies.now c.loop-hops.hops _ (omega arith))
