-- `room_after` of two fields: both are within their limits. The check leaves each of these goals open without its answer.
use Rattle.std.proofs.Common.{refl}
use Rattle.theory.proofs.acceptance.Checks.{both-hold}
use Rattle.fields.proofs.field.ThenField.room_after.Goals as goal

pub room_after-requires : goal.room_after-requires
room_after-requires g c =
    let s = c.args.self.now in
    let given = c.args.given.now in
    λ k. ((refl, tt), (both-hold ((g.A.Field.told s.0).limits (g.A.Field.said given.0)) ((g.B.Field.told s.1).limits (g.B.Field.said given.1)) c.requires).0)

pub room_after-requires-2 : goal.room_after-requires-2
room_after-requires-2 g c =
    let s = c.args.self.now in
    let given = c.args.given.now in
    λ k. ((refl, tt), (both-hold ((g.A.Field.told s.0).limits (g.A.Field.said given.0)) ((g.B.Field.told s.1).limits (g.B.Field.said given.1)) c.requires).1)
