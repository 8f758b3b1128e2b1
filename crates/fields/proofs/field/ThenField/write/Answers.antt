-- `write` of two fields: both are within their limits, and one is written after the other.
-- The check leaves each of these goals open without its answer.
use Rattle.std.proofs.Common.{arith, length-append, refl}
use Rattle.theory.proofs.acceptance.Checks.{both-hold}
use Rattle.fields.proofs.Written.{then}
use Rattle.fields.proofs.field.ThenField.write.Goals as goal

pub write-requires : goal.write-requires
write-requires g c =
    let s = c.args.self.now in
    let given = c.args.given.now in
    let a = g.A.Field.told s.0 in
    let b = g.B.Field.told s.1 in
    let long = length-append (a.bytes (g.A.Field.said given.0)) (b.bytes (g.B.Field.said given.1)) in
    λ k. (
      (refl, tt),
      ((both-hold (a.limits (g.A.Field.said given.0)) (b.limits (g.B.Field.said given.1)) c.requires.right).0, omega (arith, long, c.requires.room)),
    )

pub write-requires-2 : goal.write-requires-2
write-requires-2 g c =
    let s = c.args.self.now in
    let given = c.args.given.now in
    let a = g.A.Field.told s.0 in
    let b = g.B.Field.told s.1 in
    let long = length-append (a.bytes (g.A.Field.said given.0)) (b.bytes (g.B.Field.said given.1)) in
    let first = c.write.ensures in
    λ k. (
      (refl, tt),
      (
        (both-hold (a.limits (g.A.Field.said given.0)) (b.limits (g.B.Field.said given.1)) c.requires.right).1,
        omega (arith, long, c.requires.room, first.place, first.long),
      ),
    )

pub returns : goal.returns
returns g c = then c.write.ensures c.write-2.ensures
