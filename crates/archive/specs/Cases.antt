-- A worked case of the file: the firing of three readings, and its 201 bytes.
--     reading, firing  the three readings of weight 1
--     figures         of that firing, with the table 100, 105, 110 and the multiplier −1 over the denominator 2
--     listed          the nine lines of their file, byte by byte; `ended` puts the end byte behind each
-- `negsuc n` is the whole number n + 1 below 0, so −1 is `negsuc 0`.
use Rattle.std.specs.Prelude.{ℕ, List, [], ◌∷◌, ◌++◌, pos, negsuc}
use Rattle.kinds.specs.declared.reading.Reading.{Reading}
use Rattle.archive.specs.File.{Figures}

abbrev pub reading : ℕ → ℕ → Reading
reading t x = record { minute = pos t; crude = pos x; weight = pos 1 }

abbrev pub firing : List Reading
firing = reading 0 100 ∷ reading 1 120 ∷ reading 2 110 ∷ []

abbrev pub figures : Figures
figures = record {
  head = record { roughness = 258; misfit = 0; bend = 0; readings = 3; stiffness = 1; denominator = 2; allowance = 0 };
  readings = firing;
  entries = pos 100 ∷ pos 105 ∷ pos 110 ∷ [];
  multipliers = negsuc 0 ∷ [];
  cost = 15;
  floor = pos 30;
}

abbrev pub listed : List (List ℕ)
listed =
    -- 010101020000000000000003000100020000000000000000
    (48 ∷ 49 ∷ 48 ∷ 49 ∷ 48 ∷ 49 ∷ 48 ∷ 50 ∷ 48 ∷ 48 ∷ 48 ∷ 48 ∷ 48 ∷ 48 ∷ 48 ∷ 48 ∷ 48 ∷ 48 ∷ 48 ∷ 48 ∷ 48 ∷ 48 ∷ 48 ∷ 51 ∷ 48 ∷ 48 ∷ 48 ∷ 49 ∷ 48 ∷ 48 ∷ 48 ∷ 50 ∷ 48 ∷ 48 ∷ 48 ∷ 48 ∷ 48 ∷ 48 ∷ 48 ∷ 48 ∷ 48 ∷ 48 ∷ 48 ∷ 48 ∷ 48 ∷ 48 ∷ 48 ∷ 48 ∷ [])
    -- 0200000000000000640001
    ∷ (48 ∷ 50 ∷ 48 ∷ 48 ∷ 48 ∷ 48 ∷ 48 ∷ 48 ∷ 48 ∷ 48 ∷ 48 ∷ 48 ∷ 48 ∷ 48 ∷ 48 ∷ 48 ∷ 54 ∷ 52 ∷ 48 ∷ 48 ∷ 48 ∷ 49 ∷ [])
    -- 0200010000000100780001
    ∷ (48 ∷ 50 ∷ 48 ∷ 48 ∷ 48 ∷ 49 ∷ 48 ∷ 48 ∷ 48 ∷ 48 ∷ 48 ∷ 48 ∷ 48 ∷ 49 ∷ 48 ∷ 48 ∷ 55 ∷ 56 ∷ 48 ∷ 48 ∷ 48 ∷ 49 ∷ [])
    -- 02000200000002006E0001
    ∷ (48 ∷ 50 ∷ 48 ∷ 48 ∷ 48 ∷ 50 ∷ 48 ∷ 48 ∷ 48 ∷ 48 ∷ 48 ∷ 48 ∷ 48 ∷ 50 ∷ 48 ∷ 48 ∷ 54 ∷ 69 ∷ 48 ∷ 48 ∷ 48 ∷ 49 ∷ [])
    -- 0300000064
    ∷ (48 ∷ 51 ∷ 48 ∷ 48 ∷ 48 ∷ 48 ∷ 48 ∷ 48 ∷ 54 ∷ 52 ∷ [])
    -- 0300010069
    ∷ (48 ∷ 51 ∷ 48 ∷ 48 ∷ 48 ∷ 49 ∷ 48 ∷ 48 ∷ 54 ∷ 57 ∷ [])
    -- 030002006E
    ∷ (48 ∷ 51 ∷ 48 ∷ 48 ∷ 48 ∷ 50 ∷ 48 ∷ 48 ∷ 54 ∷ 69 ∷ [])
    -- 040000FFFFFFFF
    ∷ (48 ∷ 52 ∷ 48 ∷ 48 ∷ 48 ∷ 48 ∷ 70 ∷ 70 ∷ 70 ∷ 70 ∷ 70 ∷ 70 ∷ 70 ∷ 70 ∷ [])
    -- FF000000000000000F000000000000001E
    ∷ (70 ∷ 70 ∷ 48 ∷ 48 ∷ 48 ∷ 48 ∷ 48 ∷ 48 ∷ 48 ∷ 48 ∷ 48 ∷ 48 ∷ 48 ∷ 48 ∷ 48 ∷ 48 ∷ 48 ∷ 70 ∷ 48 ∷ 48 ∷ 48 ∷ 48 ∷ 48 ∷ 48 ∷ 48 ∷ 48 ∷ 48 ∷ 48 ∷ 48 ∷ 48 ∷ 48 ∷ 48 ∷ 49 ∷ 69 ∷ [])
    ∷ []

abbrev pub ended : List (List ℕ) → List ℕ
ended [] = []
ended (l ∷ ls) = l ++ (10 ∷ ended ls)
