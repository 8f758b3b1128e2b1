-- A read in place: what was at the front of a buffer, and what was read after it, are the new front.
use Rattle.std.proofs.Common.{◌≡◌, ℕ, ◌+◌, ◌≤◌, List, ◌++◌, Option, length, take, drop, subst, sym, ap, ◌∙◌, le_refl, drop_at, length-take-le}
use Rattle.std.proofs.lemmas.Slice.{take-put_mid_below}
use Rattle.std.specs.Io.KnownBytes.{Consumes}
use Rattle.std.proofs.KnownBytes.{Consumes-trans}
use Rattle.std.proofs.Math.Seq.{take-add, take-append-le}
use borrow.Rule.Slice.PartMut.{put_mid, post_of}

-- the new front: n bytes of ys were put after the first `done` of xs
front-grows : (done room n : ℕ) (xs ys : List ℕ) → done ≤ length xs → n ≤ length ys
    → take (done + n) (put_mid done room xs ys) ≡ take done xs ++ take n ys
front-grows done room n xs ys within fits =
    take-add done n (put_mid done room xs ys)
    ∙ ap (λ l. l ++ take n (drop done (put_mid done room xs ys))) (take-put_mid_below _ _ _ _ _ (le_refl _) within)
    ∙ ap (λ l. take done xs ++ take n l) (drop_at (take done xs) (ys ++ post_of done room xs) done (length-take-le done xs within))
    ∙ ap (λ l. take done xs ++ l) (take-append-le n ys (post_of done room xs) fits)

pub consumes-more : (a b c : Option (List ℕ)) (done room n : ℕ) (xs ys : List ℕ) → done ≤ length xs → n ≤ length ys
    → Consumes a b (take done xs) → Consumes b c (take n ys) → Consumes a c (take (done + n) (put_mid done room xs ys))
consumes-more a b c done room n xs ys within fits before read =
    subst (Consumes a c) (sym (front-grows done room n xs ys within fits)) (Consumes-trans a b c _ _ before read)
