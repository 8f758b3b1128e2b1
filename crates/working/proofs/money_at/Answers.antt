-- `working::money_at` meets its contract. Assumes nothing. The check leaves each of these goals open without its answer.
use Rattle.method.specs.Curve.{base, up, down}
use Rattle.working.proofs.Working.{owed-fit, owed-is, bonds-fit, bonds-are, money-is}
use Rattle.working.proofs.money_at.Goals as goal

pub map-owed-requires : goal.map-owed-requires
map-owed-requires c m p is = owed-fit c.requires.case _ c.requires.sums _ c.requires.adjusted m p.now is _ c.as_slice-pension.ensures.value

pub map_with-invested-requires : goal.map_with-invested-requires
map_with-invested-requires c m p q is at = bonds-fit c.requires.case _ c.requires.sums _ c.requires.adjusted m p.now q.now is at _ c.as_slice-bonds.ensures.value

pub money_by-requires : goal.money_by-requires
money_by-requires c =
    let fits = c.requires.case in (
      record { base = (c.map-owed.ensures base).says.met.1; up = (c.map-owed.ensures up).says.met.1; down = (c.map-owed.ensures down).says.met.1 },
      record { base = (c.map_with-invested.ensures base).met.1; up = (c.map_with-invested.ensures up).met.1; down = (c.map_with-invested.ensures down).met.1 },
      fits.amounts,
      fits.shocks,
      fits.people,
    )

pub returns : goal.returns
returns c =
    money-is c.args.case.now c.map-owed.result c.map_with-invested.result
    (λ m. let r = c.map-owed.ensures m in owed-is c.requires.case _ c.requires.sums _ c.requires.adjusted m r.shown.now r.shows _ c.as_slice-pension.ensures.value _ r.says.met.0)
    (λ m. let r = c.map_with-invested.ensures m in bonds-are c.requires.case _ c.requires.sums m r.first.now r.shows.0 _ c.as_slice-bonds.ensures.value _ r.met.0) _ c.money_by.ensures
