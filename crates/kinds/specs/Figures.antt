-- Lists of whole numbers of any size.
--     dot             the sum of the products, place by place
--     largest         the largest size, 0 for no figures
--     over            figures written at the start of a place that held others
use Rattle.std.specs.Prelude.{ℕ, max, List, [], ◌∷◌, ◌++◌, length, drop, ℤ, pos, ◌+ℤ◌, ◌*ℤ◌, unsigned_abs}

abbrev pub dot : List ℤ → List ℤ → ℤ
dot [] ys = pos 0
dot (x ∷ xs) [] = pos 0
dot (x ∷ xs) (y ∷ ys) = x *ℤ y +ℤ dot xs ys

abbrev pub largest : List ℤ → ℕ
largest [] = 0
largest (x ∷ xs) = max (unsigned_abs x) (largest xs)

abbrev pub over : List ℤ → List ℤ → List ℤ
over new old = new ++ drop (length new) old
