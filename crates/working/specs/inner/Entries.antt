-- Brackets as entries of a buffer: lower, upper, one after another.
use Rattle.std.specs.Prelude.{List, [], ◌∷◌}

unfoldable pub entries : {A B : Type 0} → (B → A) → (B → A) → List B → List A
entries low high [] = []
entries low high (b ∷ bs) = low b ∷ high b ∷ entries low high bs
