-- Writing a file: the checks of each call in their order, and what the call leaves.
--     Puts              that bytes stand in a place from i up to j, and that all else there is as it was
--     fields_text       the digits of several fields, one behind the other
--     in_turn           checks in their order: the counts (18), the figures (6), the room (10); `None` if all pass
--     head_width, reading_width, entry_width, multiplier_width, end_width      how long each frame is, its end byte counted
--     most_frames       how many frames a list can have: the place of the last one fits its field
--     opened, past_head, past_frame, past_list       how far a file has come: at first, and after a head, a frame, a list
--     moved_on          the same counts, at another byte and another place
--     has_room          whether a frame fits in a place behind what is written
--     head_no, reading_no, entry_no, multiplier_no, end_no, readings_no      the checks of each call; `frame_no` is what those
--                       of a list share, and `readings_no` asks whether as many frames are written as there are readings
--     Taken, Returned   what a call leaves that is taken, and one that is refused
--     Passes            what a call hands on once its checks are made
--     Steps             the answer of a call that writes a frame; Next says what its new stage is
--     HeadStep, ReadingStep, EntryStep, MultiplierStep, EndStep           the answer of each call that writes a frame;
--                       `FrameStep` is what those of a list share
--     ListStep          the answer of a call that leads on to the next list
--     all_fit           whether a test holds of a whole list
--     Ready             that the frames of a list can be written: no call will be refused
--     Lists             that the frames of a list are written, and that the place of the next frame is n
--     figures_fit       whether all figures of a file fit
--     write_no          the checks of a file that is written at once, in a place of so many bytes; `writing_no` of its figures
--     gathered          the figures that are handed over
--     answered, filled  what a call answers after its checks, and what the place of a file then holds
--     Writes            what the call that writes a file at once promises
use Rattle.std.specs.Prelude.{◌≡◌, ℕ, ◌+◌, ◌*◌, ◌≤◌, Bool, true, cond, ◌&&◌, List, [], ◌++◌, length, take, drop, ℤ, Some, None, Ok, Err, Option, Result, MatchResult, ◌==◌, nat_le, nat_lt}
use Rattle.std.specs.List.{flat_map, list_all}
use Rattle.kinds.specs.declared.reading.Reading.{Reading}
use Rattle.kinds.specs.declared.refusal.Cause.{Cause}
use Rattle.kinds.specs.declared.refusal.Cause.TheVariants.{Value, Room, Frame}
use Rattle.digits.specs.Fields.{field}
use Rattle.archive.specs.declared.figures.Figures.{Figures as Lent}
use Rattle.archive.specs.declared.figures.Head.{Head}
use Rattle.archive.specs.declared.stages.Progress.{Progress}
use Rattle.archive.specs.declared.stages.Opened.{Opened}
use Rattle.archive.specs.declared.stages.AtReadings.{AtReadings}
use Rattle.archive.specs.declared.stages.AtEntries.{AtEntries}
use Rattle.archive.specs.declared.stages.AtMultipliers.{AtMultipliers}
use Rattle.archive.specs.declared.stages.Unfinished.{Unfinished}
use Rattle.archive.specs.declared.stages.Ended.{Ended}
use Rattle.archive.specs.declared.stages.Refused.{Refused}
use Rattle.archive.specs.File.{Figures, Fitting, edition, head_text, reading_text, entry_text, multiplier_text, end_text, texts_from, line, file, fits, head_fits, reading_fits, entry_fits, multiplier_fits, file_length}

pub record Puts (before after : List ℕ) (i j : ℕ) (bytes : List ℕ) : Type 0 where
  pub stops : j ≡ i + length bytes
  pub within : j ≤ length before
  pub is : after ≡ take i before ++ (bytes ++ drop j before)

-- each with the number of its digits
abbrev pub fields_text : List (ℕ × ℕ) → List ℕ
fields_text fs = flat_map (λ f. field f.0 f.1) fs

abbrev pub in_turn : Bool → Bool → Bool → Option Cause
in_turn counted fitting roomy = cond counted (cond fitting (cond roomy None (Some Room)) (Some Value)) (Some Frame)

abbrev pub head_width : ℕ
head_width = 49

abbrev pub reading_width : ℕ
reading_width = 23

abbrev pub entry_width : ℕ
entry_width = 11

abbrev pub multiplier_width : ℕ
multiplier_width = 15

abbrev pub end_width : ℕ
end_width = 35

abbrev pub most_frames : ℕ
most_frames = 65536

abbrev pub opened : Progress
opened = record { at = 0; readings = 0; multipliers = 0; next = 0 }

abbrev pub past_head : Progress → Head → ℕ → Progress
past_head p h m = record { at = p.at + head_width; readings = h.readings; multipliers = m; next = 0 }

abbrev pub moved_on : Progress → ℕ → ℕ → Progress
moved_on p i k = record { at = i; readings = p.readings; multipliers = p.multipliers; next = k }

abbrev pub past_frame : Progress → ℕ → Progress
past_frame p width = moved_on p (p.at + width) (p.next + 1)

abbrev pub past_list : Progress → Progress
past_list p = moved_on p p.at 0

abbrev pub has_room : Progress → ℕ → ℕ → Bool
has_room p width room = nat_le (p.at + width) room

abbrev pub head_no : Progress → Head → ℕ → Option Cause
head_no p h room = in_turn true (head_fits h) (has_room p head_width room)

-- one more frame of a list that has `count` of them
abbrev pub frame_no : {X : Type 0} → (X → Bool) → ℕ → ℕ → Progress → X → ℕ → Option Cause
frame_no test width count p x room = in_turn (nat_lt p.next count) (fits 4 p.next && test x) (has_room p width room)

abbrev pub reading_no : Progress → Reading → ℕ → Option Cause
reading_no p x room = frame_no reading_fits reading_width p.readings p x room

abbrev pub entry_no : Progress → ℤ → ℕ → Option Cause
entry_no p v room = frame_no entry_fits entry_width p.readings p v room

abbrev pub multiplier_no : Progress → ℤ → ℕ → Option Cause
multiplier_no p m room = frame_no multiplier_fits multiplier_width p.multipliers p m room

abbrev pub end_no : Progress → ℕ → Option Cause
end_no p room = in_turn (p.next == p.multipliers) true (has_room p end_width room)

abbrev pub readings_no : Progress → Option Cause
readings_no p = in_turn (p.next == p.readings) true true

pub record Taken {T : Type 0} (checks : Option Cause) (i j : ℕ) (bytes : List ℕ) (Next : T → Type 0) (before after : List ℕ) (t : T) : Type 0 where
  pub passed : checks ≡ None
  pub puts : Puts before after i j bytes
  pub becomes : Next t

pub record Returned {S : Type 0} (checks : Option Cause) (s : S) (before after : List ℕ) (e : Refused S) : Type 0 where
  pub why : checks ≡ Some e.cause
  pub same_stage : e.stage ≡ s
  pub same_place : after ≡ before

-- what a call hands on once its checks are made: the stage as it is, where they passed
abbrev pub Passes : {S : Type 0} → Option Cause → S → Result S (Refused S) → Type 0
Passes checks s r = MatchResult r (λ t. (checks ≡ None) × (t ≡ s)) (Returned checks s [] [])

abbrev pub Steps : {S T : Type 0} → Option Cause → ℕ → ℕ → List ℕ → (T → Type 0) → S → List ℕ → List ℕ → Result T (Refused S) → Type 0
Steps checks i j bytes Next s before after r = MatchResult r (Taken checks i j bytes Next before after) (Returned checks s before after)

abbrev pub HeadStep : Head → ℕ → Unfinished Opened → List ℕ → List ℕ → Result (Unfinished AtReadings) (Refused (Unfinished Opened)) → Type 0
HeadStep h m s before after r =
    Steps (head_no s.progress h (length before)) s.progress.at (s.progress.at + head_width) (line (head_text edition h))
    (λ t. t.progress ≡ past_head s.progress h m) s before after r

abbrev pub FrameStep : {S X : Type 0} → (ℕ → X → List ℕ) → (X → Bool) → ℕ → ℕ → X → Unfinished S → List ℕ → List ℕ → Result (Unfinished S) (Refused (Unfinished S)) → Type 0
FrameStep text test width count x s before after r =
    Steps (frame_no test width count s.progress x (length before)) s.progress.at (s.progress.at + width) (line (text s.progress.next x))
    (λ t. t.progress ≡ past_frame s.progress width) s before after r

abbrev pub ReadingStep : Reading → Unfinished AtReadings → List ℕ → List ℕ → Result (Unfinished AtReadings) (Refused (Unfinished AtReadings)) → Type 0
ReadingStep x s before after r = FrameStep reading_text reading_fits reading_width s.progress.readings x s before after r

abbrev pub EntryStep : ℤ → Unfinished AtEntries → List ℕ → List ℕ → Result (Unfinished AtEntries) (Refused (Unfinished AtEntries)) → Type 0
EntryStep v s before after r = FrameStep entry_text entry_fits entry_width s.progress.readings v s before after r

abbrev pub MultiplierStep : ℤ → Unfinished AtMultipliers → List ℕ → List ℕ → Result (Unfinished AtMultipliers) (Refused (Unfinished AtMultipliers)) → Type 0
MultiplierStep m s before after r = FrameStep multiplier_text multiplier_fits multiplier_width s.progress.multipliers m s before after r

abbrev pub EndStep : ℕ → ℤ → Unfinished AtMultipliers → List ℕ → List ℕ → Result Ended (Refused (Unfinished AtMultipliers)) → Type 0
EndStep c b s before after r =
    Steps (end_no s.progress (length before)) s.progress.at (s.progress.at + end_width) (line (end_text c b))
    (λ t. t.bytes ≡ s.progress.at + end_width) s before after r

-- no byte is written, and no place is lent
abbrev pub ListStep : {S T : Type 0} → Unfinished S → Result (Unfinished T) (Refused (Unfinished S)) → Type 0
ListStep s r = MatchResult r (λ t. (readings_no s.progress ≡ None) × (t.progress ≡ past_list s.progress)) (λ e. Returned (readings_no s.progress) s [] [] e)

abbrev pub all_fit : {X : Type 0} → (X → Bool) → List X → Bool
all_fit test xs = list_all test xs

pub record Ready {X : Type 0} (test : X → Bool) (width : ℕ) (xs : List X) (p : Progress) (count room : ℕ) : Type 0 where
  pub fit : all_fit test xs ≡ true
  pub few : length xs ≤ most_frames
  pub first : p.next ≡ 0
  pub counted : count ≡ length xs
  pub roomy : p.at + width * length xs ≤ room

pub record Lists {X : Type 0} (text : ℕ → X → List ℕ) (width : ℕ) (xs : List X) (n : ℕ) (p p' : Progress) (before after : List ℕ) : Type 0 where
  pub puts : Puts before after p.at p'.at (flat_map line (texts_from text 0 xs))
  pub becomes : p' ≡ moved_on p (p.at + width * length xs) n

abbrev pub figures_fit : Head → List Reading → List ℤ → List ℤ → Bool
figures_fit h xs vs ms =
    head_fits h && all_fit reading_fits xs && all_fit entry_fits vs && all_fit multiplier_fits ms && nat_le (length ms) most_frames

abbrev pub write_no : Head → List Reading → List ℤ → List ℤ → ℕ → Option Cause
write_no h xs vs ms room =
    in_turn (length xs == h.readings && length vs == h.readings) (figures_fit h xs vs ms) (nat_le (file_length (length xs) (length ms)) room)

abbrev pub gathered : Lent → Figures
gathered f = record { head = f.head; readings = f.readings.now; entries = f.entries.now; multipliers = f.multipliers.now; cost = f.cost; floor = f.floor }

abbrev pub answered : {X : Type 0} → Option Cause → X → Result X Cause
answered None x = Ok x
answered (Some c) x = Err c

abbrev pub filled : Option Cause → List ℕ → List ℕ → List ℕ
filled None new old = new ++ drop (length new) old
filled (Some c) new old = old

abbrev pub writing_no : Figures → ℕ → Option Cause
writing_no g room = write_no g.head g.readings g.entries g.multipliers room

pub record Writes (g : Figures) (before after : List ℕ) (r : Result ℕ Cause) : Type 0 where
  pub answer : r ≡ answered (writing_no g (length before)) (file_length (length g.readings) (length g.multipliers))
  pub content : after ≡ filled (writing_no g (length before)) (file g) before
  -- what is written fits, and what fits is written where the place is long enough
  pub fitting : writing_no g (length before) ≡ None → Fitting g
  pub accepted : Fitting g → length (file g) ≤ length before → writing_no g (length before) ≡ None
  -- the answer is the file's length
  pub long : Fitting g → length (file g) ≡ file_length (length g.readings) (length g.multipliers)
