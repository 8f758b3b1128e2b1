-- No check of a list fails exactly when each of them holds; and of two lists, one after the other, the first check that fails is that of the
-- first list, and where none of it fails, that of the second.
use mathlib.Core.Path.{◌≡◌, refl, ap}
use mathlib.Core.Bool.{Bool, true, false, ◌&&◌, cond}
use mathlib.Core.List.{List, [], ◌∷◌, ◌++◌}
use Prim.Native.Nat.{ℕ, ◌<◌}
use borrow.Author.Tests.{ltb-true}
use lib.Dec.{T, ltb}
use Rattle.std.specs.Prelude.{Option, None, Some}
use Rattle.refusal.specs.Numbered.{number_of, number_in}
use Rattle.refusal.specs.declared.Refusal.{Refusal}
use Rattle.refusal.proofs.NotZero.{none-numbered}
use Rattle.model.specs.Fields.{Check}
use Rattle.model.specs.Refusals.{failing, first_of}

-- each check of a list holds
abbrev pub Hold : List Check → Type 0
Hold [] = Unit {0}
Hold (c ∷ cs) = (c.0 ≡ true) × Hold cs

pub hold-append : (cs ds : List Check) → Hold cs → Hold ds → Hold (cs ++ ds)
hold-append [] ds h k = k
hold-append (c ∷ cs) ds h k = (h.0, hold-append cs ds h.1 k)

pub hold-parts : (cs ds : List Check) → Hold (cs ++ ds) → Hold cs × Hold ds
hold-parts [] ds h = (tt, h)
hold-parts (c ∷ cs) ds h = let r = hold-parts cs ds h.1 in ((h.0, r.0), r.1)

-- ---- both ways

pub holds-none : (cs : List Check) → Hold cs → failing cs ≡ None
holds-none [] h = refl
holds-none (c ∷ cs) h = rw h.0 (holds-none cs h.1)

pub none-holds : (cs : List Check) → failing cs ≡ None → Hold cs
none-holds [] h = tt
none-holds ((true, r) ∷ cs) h = (refl, none-holds cs h)
none-holds ((false, r) ∷ cs) h = cc

-- by the number of the refusal: no refusal has the number 0
pub first-fails : (cs : List Check) (o : Option Refusal) → failing cs ≡ o → first_of cs ≡ number_in o
unfolding first_of
first-fails cs o h = ap number_in h

pub none-fails : (cs : List Check) → first_of cs ≡ 0 → failing cs ≡ None
unfolding first_of
none-fails cs h = none-numbered (failing cs) h

pub hold-none : (cs : List Check) → Hold cs → first_of cs ≡ 0
hold-none cs h = first-fails cs None (holds-none cs h)

pub none-hold : (cs : List Check) → first_of cs ≡ 0 → Hold cs
none-hold cs h = none-holds cs (none-fails cs h)

-- ---- one list of checks after another

pub holds-first : (cs ds : List Check) → failing cs ≡ None → failing (cs ++ ds) ≡ failing ds
holds-first [] ds h = refl
holds-first ((true, r) ∷ cs) ds h = holds-first cs ds h
holds-first ((false, r) ∷ cs) ds h = cc

pub fails-first : (cs ds : List Check) (r : Refusal) → failing cs ≡ Some r → failing (cs ++ ds) ≡ Some r
fails-first [] ds r h = cc
fails-first ((true, s) ∷ cs) ds r h = fails-first cs ds r h
fails-first ((false, s) ∷ cs) ds r h = h

pub both-hold : (cs ds : List Check) → failing (cs ++ ds) ≡ None → (failing cs ≡ None) × (failing ds ≡ None)
both-hold [] ds h = (refl, h)
both-hold ((true, r) ∷ cs) ds h = both-hold cs ds h
both-hold ((false, r) ∷ cs) ds h = cc

pub after-hold : (cs ds : List Check) → Hold cs → failing (cs ++ ds) ≡ failing ds
after-hold cs ds h = holds-first cs ds (holds-none cs h)

-- what follows a check matters by its refusal alone
pub behind-check : (c : Check) (cs ds : List Check) → failing cs ≡ failing ds → failing (c ∷ cs) ≡ failing (c ∷ ds)
behind-check c cs ds e = ap (λ (o : Option Refusal). cond c.0 o (Some c.1)) e

-- ---- a number that no check of a list has

abbrev pub below : ℕ → List Check → Bool
below m [] = true
below m (c ∷ cs) = ltb (number_of c.1) m && below m cs

both-on : (a b d : Bool) → T (a && b) → (T b → T d) → T (a && d)
both-on true b d t f = f t
both-on false b d t f = t

pub below-append : (m : ℕ) (cs ds : List Check) → T (below m cs) → T (below m ds) → T (below m (cs ++ ds))
below-append m [] ds t u = u
below-append m (c ∷ cs) ds t u = both-on (ltb (number_of c.1) m) (below m cs) (below m (cs ++ ds)) t (λ k. below-append m cs ds k u)

pub below-if : (m : ℕ) (b : Bool) (cs : List Check) → T (below m cs) → T (below m (cond b cs []))
below-if m true cs t = t
below-if m false cs t = tt

pub first_below : (m : ℕ) (cs : List Check) → 0 < m → T (below m cs) → first_of cs < m
unfolding first_of
first_below m [] l t = l
first_below m ((true, r) ∷ cs) l t = first_below m cs l (rest (ltb (number_of r) m) (below m cs) t)
  where
    rest : (a b : Bool) → T (a && b) → T b
    rest true b t = t
    rest false b t = absurd t
first_below m ((false, r) ∷ cs) l t = either (ltb (number_of r) m) refl t
  where
    either : (c : Bool) → ltb (number_of r) m ≡ c → T (c && below m cs) → number_of r < m
    either true e t = ltb-true (number_of r) m e
    either false e t = absurd t
