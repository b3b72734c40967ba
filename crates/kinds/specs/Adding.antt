-- A list that holds up to n items.
--     Adds            that an item was added at the end, or that there was no room and nothing changed
use Rattle.std.specs.Prelude.{◌≡◌, ℕ, ◌<◌, List, [], ◌∷◌, ◌++◌, length, Result, MatchResult}
use Rattle.kinds.specs.declared.bounded.NoRoom.{NoRoom}

abbrev pub Adds : {T : Type 0} → ℕ → List T → T → List T → Result (Unit {0}) NoRoom → Type 0
Adds n old x new r =
    MatchResult r (λ _. (length old < n) × (new ≡ old ++ (x ∷ []))) (λ _. (length old ≡ n) × (new ≡ old))
