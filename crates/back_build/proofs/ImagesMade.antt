-- An image that was made of the code of a whole program does what the program means.
use Rattle.std.proofs.Common.{inl, inr, ◌≡◌, ℕ, zero, suc, ◌+◌, ◌-◌, ◌^◌, ◌<◌, ◌≤◌, List, [], ◌∷◌, length, refl, sym, ap, subst, ◌∙◌, arith, Some}
use Rattle.std.specs.Prelude.{true, slice_get, slice_index, map}
use Rattle.std.proofs.lemmas.Bool.{cases_lt}
use Rattle.std.proofs.lemmas.List.{get_or_past}
use Rattle.base.specs.Names.{IsTable}
use Rattle.lang_meaning.specs.declared.program.ProgramRows.{ProgramRows}
use Rattle.lang_meaning.specs.Facts.{is_whole}
use Rattle.flat_language.specs.Flatten.{flat_program}
use Rattle.flat_boxes.specs.Boxes.{ProgramBoxes}
use Rattle.rv_machine.specs.declared.image.Image.{Image}
use Rattle.mid_code.specs.declared.program.MidProcedure.{MidProcedure}
use Rattle.mid_code.specs.declared.program.MidProgram.{MidProgram}
use Rattle.mid_arena.specs.Layouts.{AreBytes}
use Rattle.mid_lines.specs.Flattened.{program_lines, procedure_lines}
use Rattle.mid_lines.specs.declared.line.LineProgram.{LineProgram}
use Rattle.back_relation.specs.Setting.{FramesWithin}
use Rattle.back_layout.specs.Layout.{laid_out}
use Rattle.back_layout.specs.ChosenPlaces.{placed_decided, placed_laid_out}
use Rattle.back_layout.specs.Laws.{LawOfPlacedLaidOut}
use Rattle.back_places.specs.Places.{Located}
use Rattle.back_images.specs.Laws.{emitted, emitted_start, LawOfImages}
use Rattle.back_program_code.specs.Made.{LawOfFirstOfImage}
use Rattle.back_runs.specs.Images.{HasStart}
use Rattle.back_words.specs.Asked.{NamesAsked}
use Rattle.back_lowered.specs.declared.lowering.LoweredProgram.{LoweredProgram}
use Rattle.back_lowered.specs.Lowered.{IsLoweredProgram}
use Rattle.back_build.specs.Built.{code_with, entry_of, symbols_of}
use Rattle.back_build.specs.Means.{ImageMeans}
use Rattle.back_build.specs.Compiled.{IsCompiled, IsImageMade, LawOfCompiled, LawOfBuilt}
use Rattle.back_build.proofs.Entry.{lowered_long}

-- frames are within themselves
same_frames : (ps : List MidProcedure) → FramesWithin ps ps
same_frames [] = tt
same_frames (p ∷ ps) = (record { same = refl; frame = omega arith }, same_frames ps)

-- a byte is a word
bytes_small : (input : List ℕ) → AreBytes input → (i : ℕ) → slice_index input i < 2 ^ 32
bytes_small input bytes i = elim (cases_lt i (length input)) [
  | inl within ↦ let h = bytes i within in omega (arith, h)
  | inr past ↦ let h : slice_index input i ≡ 0 = get_or_past input i 0 past in omega (arith, h)
]

-- the words laid beside the code stand in front of it
front_within : (program : LineProgram) (d : Located) → length program.laid ≤ (laid_out program d).code_to
front_within program d = omega arith

entry_there : (ps : List MidProcedure) (entry : ℕ) → entry < length ps → (p : MidProcedure) × (slice_get ps entry ≡ Some p)
entry_there [] entry h = absurd (omega (arith, h))
entry_there (p ∷ ps) zero h = (p, refl)
entry_there (p ∷ ps) (suc n) h = entry_there ps n (omega (arith, h))

line_there : (ps : List MidProcedure) (entry : ℕ) (p : MidProcedure) → slice_get ps entry ≡ Some p → slice_get (map procedure_lines ps) entry ≡ Some (procedure_lines p)
line_there [] entry p h = absurd (cc h)
line_there (q ∷ ps) zero p h = let same : q ≡ p = cc h in ap (λ z. Some (procedure_lines z)) same
line_there (q ∷ ps) (suc n) p h = line_there ps n p h

-- the last one of so many
last_one : (count last : ℕ) → count ≡ last + 1 → (count - 1 ≡ last) × (last < count)
last_one count last e = (omega arith, omega arith)

within : (a b c : ℕ) → a ≤ b → b ≤ c → a ≤ c
within a b c h k = omega arith

-- the laws that this rests on
pub record Laws : Type 0 where
  pub compiled : LawOfCompiled
  pub placed_laid_out : LawOfPlacedLaidOut
  pub images : LawOfImages
  pub first_of_image : LawOfFirstOfImage

module _ (laws : Laws) (names : List (List ℕ)) (program : ProgramRows) (l : LoweredProgram)
    (image : Image) (whole : is_whole program ≡ true) (table : IsTable names) (asked : NamesAsked names (flat_program program))
    (boxes : ProgramBoxes (flat_program program)) (low : IsLoweredProgram names (flat_program program) l) (is : IsImageMade l image) where
  abbrev code : MidProgram
  code = code_with l l.procedures

  abbrev lines : LineProgram
  lines = program_lines code

  abbrev decided : Located
  decided = placed_laid_out code is.made.chosen

  compiled : IsCompiled names program l l.procedures
  compiled = record {
    whole = whole;
    table = table;
    asked = asked;
    boxes = boxes;
    lowered = low;
    low = is.made.laid;
    frames = same_frames l.procedures;
    checked = is.checked;
  }

  -- the start is the last procedure
  long : length l.procedures ≡ entry_of names (flat_program program) l + 1
  long =
      ap length low.procedures
      ∙ lowered_long names l.words.placement (flat_program program) (ap (λ p. p.procedures) low.words.placement) (ap (λ p. p.lambdas) low.words.placement)

  entry_is : length l.procedures - 1 ≡ entry_of names (flat_program program) l
  entry_is = (last_one (length l.procedures) (entry_of names (flat_program program) l) long).0

  abbrev entry : ℕ
  entry = entry_of names (flat_program program) l

  module _ (arena : ℕ) (input : List ℕ) (fits : length image.words ≤ arena) (small : arena ≤ 2 ^ 24) (bytes : AreBytes input) where
    means : ImageMeans names program (symbols_of l) image.words image.entry arena input
    means =
        let d = laws.placed_laid_out code is.made.chosen is.made.places is.made.low in
        let g = d.good in
        let p = entry_there l.procedures entry (last_one (length l.procedures) entry long).1 in
        let starts : HasStart lines decided (emitted_start code) entry image.words =
        subst (λ ws. HasStart lines decided (emitted_start code) entry ws) (sym (is.made.words ∙ ap (λ n. emitted code is.made.chosen n) entry_is))
        (laws.images lines (placed_decided code is.made.chosen) d.known entry (record { lines = g.lines; entries = g.entries; placed = g.placed; sources = g.sources; targets = g.targets; behind = g.behind; frames = g.frames })
        is.made.low is.made.laid) in
        let front = within (length l.words.data.arena.words) decided.code_to (length image.words) (front_within lines (placed_decided code is.made.chosen)) starts.whole in
        let first = laws.first_of_image code (length l.procedures - 1) arena image input is.checked is.made fits small (bytes_small input bytes) in
        subst (λ at. ImageMeans names program (symbols_of l) image.words at arena input) (sym is.made.starts)
        (laws.compiled names program l l.procedures compiled decided d.known d.good (emitted_start code) image.words arena input
        (procedure_lines p.0) starts (line_there l.procedures entry p.0 p.1) front fits small first bytes)

pub built_law : Laws → LawOfBuilt
built_law laws names program l image whole table asked boxes low is arena input fits small bytes =
    means laws names program l image whole table asked boxes low is arena input fits small bytes
