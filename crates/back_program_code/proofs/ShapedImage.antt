-- The words from shapes are those of the program's image.
use Rattle.std.proofs.Common.{inl, inr, ◌⊎◌, replicate, get_or, ◌≡◌, ◌≤◌, ℕ, suc, ◌+◌, ◌*◌, ◌<◌, Bool, true, false, List, [], ◌∷◌, ◌++◌, length, map, Some, None, refl, sym, ap, ◌∙◌, arith, append_assoc}
use Rattle.std.proofs.lemmas.List.{map-append}
use Rattle.std.proofs.lemmas.Option.{slice_get_cases}
use Rattle.std.specs.Prelude.{slice_get, slice_index}
use Rattle.rv_encode.specs.Encodes.{word_of}
use Rattle.mid_code.specs.declared.operation.Callee.TheVariants.{Procedure, Word}
use Rattle.mid_code.specs.declared.operation.Operation.TheVariants as operation
use Rattle.mid_code.specs.declared.program.MidProcedure.{MidProcedure}
use Rattle.mid_code.specs.declared.program.MidProgram.{MidProgram}
use Rattle.mid_code.specs.Checked.{is_checked_program}
use Rattle.mid_lines.specs.declared.line.Line.{Line}
use Rattle.mid_lines.specs.declared.line.Line.TheVariants.{Do, Branch, Jump}
use Rattle.mid_lines.specs.declared.line.LineProgram.{LineProgram}
use Rattle.mid_lines.specs.Flattened.{procedure_lines, program_lines}
use Rattle.mid_lines.specs.Lines.{line_of}
use Rattle.back_places.specs.declared.place.Place.{Place}
use Rattle.back_places.specs.Places.{Located}
use Rattle.back_places.specs.Selection.{far_jump_code}
use Rattle.back_places.specs.Blocks.{end_code, full_code}
use Rattle.back_places.specs.LineCode.{behind_code, entry_code}
use Rattle.back_allocation.specs.declared.placing.RegisterPlaces.{RegisterPlaces}
use Rattle.back_allocation.specs.ProgramPlaces.{places_for, PlacesFit}
use Rattle.back_program_code.proofs.NamedLines.{there_of}
use Rattle.back_layout.specs.Sizes.{switch_targets, all_targets}
use Rattle.back_layout.specs.Layout as layout
use Rattle.back_layout.specs.Layout.{with_front, placed, far_placed, with_near, line_is_near, laid_out, first_at, entry_place}
use Rattle.back_layout.specs.Image.{lines_code, procedure_words, procedures_words, entries_table, image}
use Rattle.back_layout.specs.ChosenPlaces.{placed_decided, placed_laid_out}
use Rattle.back_emit.specs.declared.spots.Spot.{Spot}
use Rattle.back_emit.specs.PlacedCode.{placed_entry, placed_line, placed_behind}
use Rattle.back_emit.specs.PlacedSizes.{near_in, AgreesNamed}
use Rattle.back_emit.specs.PlacedLines.{line_position}
use Rattle.back_emit.specs.PlacedNear.{placed_is_near}
use Rattle.back_emit.proofs.PlacedNear.{law_of_placed_near}
use Rattle.back_emit.proofs.FromSpots.{law_of_spots}
use Rattle.back_program_code.specs.declared.front.Front.{Front}
use Rattle.back_program_code.specs.declared.shapes.Shape.{Shape}
use Rattle.back_program_code.specs.Joined.{joined}
use Rattle.back_program_code.specs.Shapes.{shapes_of, front_of, listed, full_position, shape_lefts, shape_nears, all_lefts, all_entries, near_jumps, near_lefts, near_entries, body_position, spot_in, entry_position}
use Rattle.back_program_code.specs.ShapedImage.{table_position, line_spot, line_instructions, line_table, shape_image, numbered_image, shaped_image, LawOfShapedImage}
use Rattle.back_program_code.proofs.Joined.{joined_get}
use Rattle.back_program_code.proofs.Agreeing.{SameNear, procedure_there, shape, shape_there, line_there, entry_code_same, full_same, agrees, named_count, all_same, lefts_there, line_same, entry_there, entry_place_is, end_same}

-- whether a spot is near has nothing to do with its table
near_with : (f : Front) (entries : List ℕ) (at : ℕ) (nears : List Bool) (lefts : List ℕ) (s : Shape) (table line : ℕ) (x : Line)
    → placed_is_near s.chosen.places (spot_in f entries at nears lefts s table line x) x ≡ placed_is_near s.chosen.places (spot_in f entries at nears lefts s 0 line x) x
near_with f entries at nears lefts s table line (Do (operation.Call to (Procedure n) arguments)) = refl
near_with f entries at nears lefts s table line (Do (operation.Call to (Word r) arguments)) = refl
near_with f entries at nears lefts s table line (Do o) = refl
near_with f entries at nears lefts s table line (Branch t otherwise) = refl
near_with f entries at nears lefts s table line (Jump to) = refl
near_with f entries at nears lefts s table line x = refl

-- lists one behind the other, whichever way
six : (a b c d e g q : List ℕ) → (a ++ (b ++ (c ++ (d ++ (e ++ g))))) ++ q ≡ a ++ (b ++ (c ++ (d ++ (e ++ (g ++ q)))))
six a b c d e g q =
    append_assoc a (b ++ (c ++ (d ++ (e ++ g)))) q
    ∙ ap (λ k. a ++ k) (append_assoc b (c ++ (d ++ (e ++ g))) q
    ∙ ap (λ k. b ++ k) (append_assoc c (d ++ (e ++ g)) q
    ∙ ap (λ k. c ++ k) (append_assoc d (e ++ g) q ∙ ap (λ k. d ++ k) (append_assoc e g q))))

-- the code of lines, from their spots
lines_joined :
    (l : Located) (places : List Place) (number frame from : ℕ) (spot : ℕ → Line → Spot) (xs ys : List Line) → length ys ≡ length xs
    → ((i line : ℕ) (x y : Line) → line ≡ from + i → slice_get xs i ≡ Some x → slice_get ys i ≡ Some y → AgreesNamed l places number frame line (spot line y) x y)
    → lines_code l number frame from xs ≡ joined (λ line y. placed_line places (spot line y) y ++ placed_behind places (spot line y) y) from ys
lines_joined l places number frame from spot [] [] count h = refl
lines_joined l places number frame from spot [] (y ∷ ys) count h = absurd (omega (arith, count))
lines_joined l places number frame from spot (x ∷ xs) [] count h = absurd (omega (arith, count))
lines_joined l places number frame from spot (x ∷ xs) (y ∷ ys) count h =
    let a = h 0 from x y (omega arith) refl refl in
    let both = law_of_spots l places number frame from (spot from y) x a.read a.given a.agrees in
    let rest = lines_joined l places number frame (from + 1) spot xs ys (omega (arith, count)) (λ i line u w e g n. h (suc i) line u w (omega (arith, e)) g n) in
    ap (λ c. c ++ (behind_code l number from x ++ lines_code l number frame (from + 1) xs)) (both.0 ∙ ap (placed_line places (spot from y)) (sym a.is))
    ∙ ap (λ c. placed_line places (spot from y) y ++ (c ++ lines_code l number frame (from + 1) xs)) (both.1 ∙ ap (placed_behind places (spot from y)) (sym a.is))
    ∙ ap (λ c. placed_line places (spot from y) y ++ (placed_behind places (spot from y) y ++ c)) rest
    ∙ sym (append_assoc (placed_line places (spot from y) y) (placed_behind places (spot from y) y) _)

-- the tables of lines, line by line
tables_joined :
    (place other : ℕ → ℕ) (from : ℕ) (xs : List Line) → ((to : ℕ) → place to ≡ other to)
    → map (λ to. 4 * place to) (all_targets xs) ≡ joined (λ line x. map (λ to. 4 * other to) (switch_targets x)) from xs
tables_joined place other from [] h = refl
tables_joined place other from (x ∷ xs) h =
    map-append (λ to. 4 * place to) (switch_targets x) (all_targets xs)
    ∙ ap (λ c. c ++ map (λ to. 4 * place to) (all_targets xs)) (each (switch_targets x))
    ∙ ap (λ c. map (λ to. 4 * other to) (switch_targets x) ++ c) (tables_joined place other (from + 1) xs h)
  where
    each : (ts : List ℕ) → map (λ to. 4 * place to) ts ≡ map (λ to. 4 * other to) ts
    each [] = refl
    each (t ∷ ts) = ap (λ n. 4 * n ∷ map (λ to. 4 * place to) ts) (h t) ∙ ap (λ c. 4 * other t ∷ c) (each ts)

module _ (shape : (number : ℕ) → MidProcedure → Shape) where
  -- the table of procedures
  entries_joined :
      (l : Located) (from : ℕ) (position : ℕ → ℕ) (ps : List MidProcedure) → ((number : ℕ) → l.entry_at number ≡ position number)
      → entries_table l from (map procedure_lines ps) ≡ map (λ at. 4 * at) (joined (λ number s. position number ∷ []) from (joined (λ number p. shape number p ∷ []) from ps))
  entries_joined l from position [] h = refl
  entries_joined l from position (p ∷ ps) h =
      ap (λ n. 4 * n ∷ entries_table l (from + 1) (map procedure_lines ps)) (h from) ∙ ap (λ c. 4 * position from ∷ c) (entries_joined l (from + 1) position ps h)

  -- procedure behind procedure
  procedures_joined :
      (l : Located) (from : ℕ) (make : ℕ → Shape → List ℕ) (ps : List MidProcedure)
      → ((i number : ℕ) (p : MidProcedure) → number ≡ from + i → slice_get ps i ≡ Some p → procedure_words l number (procedure_lines p) ≡ make number (shape number p))
      → procedures_words l from (map procedure_lines ps) ≡ joined make from (joined (λ number p. shape number p ∷ []) from ps)
  procedures_joined l from make [] h = refl
  procedures_joined l from make (p ∷ ps) h =
      ap (λ c. c ++ procedures_words l (from + 1) (map procedure_lines ps)) (h 0 from p (omega arith) refl)
      ∙ ap (λ c. make from (shape from p) ++ c) (procedures_joined l (from + 1) make ps (λ i number q e g. h (suc i) number q (omega (arith, e)) g))

module _ (program : MidProgram) (chosen : List RegisterPlaces) (checked : is_checked_program program ≡ true) (fit : PlacesFit program chosen) where
  abbrev P : LineProgram
  P = program_lines program

  abbrev f : Front
  f = front_of program

  abbrev S : List Shape
  S = shapes_of program chosen

  -- with no jump near
  abbrev pub far : (number line : ℕ) → Bool
  far number line = false

  pub far_is : SameNear program chosen far []
  far_is number line p x h e = refl

  abbrev far_lefts : List (List ℕ)
  far_lefts = all_lefts f [] S

  abbrev far_entries : List ℕ
  far_entries = all_entries f far_lefts S

  -- with jumps near where they are near then
  abbrev pub near : (number line : ℕ) → Bool
  near number line = layout.near_in (far_placed P (placed_decided program chosen)) number line (line_of P number line)

  abbrev pub nears : List (List Bool)
  nears = near_jumps f S

  abbrev far_spot : (number line : ℕ) → MidProcedure → Line → Spot
  far_spot number line p x =
      spot_in f far_entries (slice_index far_entries number) [] (shape_lefts f [] (shape program chosen number p)) (shape program chosen number p)
      (table_position f far_entries (slice_index far_entries number) [] (shape_lefts f [] (shape program chosen number p)) (shape program chosen number p) line) line x

  pub near_is : SameNear program chosen near nears
  near_is number line p x h e =
      let there = shape_there program chosen number p h in
      let list : listed (slice_get nears number) ≡ shape_nears f far_entries (slice_index far_entries number) (listed (slice_get far_lefts number)) (shape program chosen number p) =
      ap listed (joined_get (λ n s. shape_nears f far_entries (slice_index far_entries n) (listed (slice_get far_lefts n)) s) 0 number number (shape program chosen number p) S (omega arith) there) in
      let lefts : listed (slice_get far_lefts number) ≡ shape_lefts f [] (shape program chosen number p) = lefts_there program chosen far [] far_is fit number p h in
      let named = (places_for chosen number).lines in
      let y = there_of (procedure_lines p).lines named line x (named_count program chosen far [] far_is fit number p h) e in
      let one = joined_get (λ n y. placed_is_near (places_for chosen number).places (spot_in f far_entries (slice_index far_entries number) [] (shape_lefts f [] (shape program chosen number p)) (shape program chosen number p) 0 n y) y) 0 line line y.0 named (omega arith) y.1 in
      let a = agrees program chosen far [] far_is fit checked number line p x y.0 h e y.1 in
      let law =
      law_of_placed_near (far_placed P (placed_decided program chosen)) (places_for chosen number).places number p.frame line (far_spot number line p y.0) x a.read a.given a.agrees
      ∙ ap (placed_is_near (places_for chosen number).places (far_spot number line p y.0)) (sym a.is) in
      ap (layout.near_in (far_placed P (placed_decided program chosen)) number line) (line_there program number line p x h e)
      ∙ law
      ∙ near_with f far_entries (slice_index far_entries number) [] (shape_lefts f [] (shape program chosen number p)) (shape program chosen number p)
      (table_position f far_entries (slice_index far_entries number) [] (shape_lefts f [] (shape program chosen number p)) (shape program chosen number p) line) line y.0
      ∙ sym (ap near_in (ap (λ ns. slice_get ns line) (list ∙ ap (λ lf. shape_nears f far_entries (slice_index far_entries number) lf (shape program chosen number p)) lefts) ∙ one))

  abbrev L : Located
  L = placed_laid_out program chosen

  abbrev lefts : List (List ℕ)
  lefts = near_lefts f S

  abbrev entries : List ℕ
  entries = near_entries f S

  own_lefts : (number : ℕ) (p : MidProcedure) → slice_get program.procedures number ≡ Some p → listed (slice_get lefts number) ≡ shape_lefts f (listed (slice_get nears number)) (shape program chosen number p)
  own_lefts number p h = lefts_there program chosen near nears near_is fit number p h

  words_same :
      (number : ℕ) (p : MidProcedure) → slice_get program.procedures number ≡ Some p
      → procedure_words L number (procedure_lines p) ≡ numbered_image f entries nears lefts number (shape program chosen number p)
  words_same number p h =
      let ns = listed (slice_get nears number) in
      let lf = shape_lefts f ns (shape program chosen number p) in
      let at = slice_index entries number in
      let s = shape program chosen number p in
      let own = placed_entry (full_position f) f.arguments_at at p.frame (places_for chosen number).parameters in
      let named = (places_for chosen number).lines in
      let count = named_count program chosen near nears near_is fit number p h in
      let code = joined (line_instructions f entries at ns lf s) 0 named in
      let entry : entry_code L number p.frame ≡ own =
      entry_code_same L L.full_at (full_position f) f.arguments_at (L.entry_at number) p.frame (places_for chosen number).parameters _ (procedure_lines p) (full_same program chosen) (procedure_there program number p h)
      ∙ ap (λ n. placed_entry (full_position f) f.arguments_at n p.frame (places_for chosen number).parameters) (entry_there program chosen near nears near_is fit number p h) in
      let lines : lines_code L number p.frame 0 (procedure_lines p).lines ≡ code =
      lines_joined L (places_for chosen number).places number p.frame 0 (line_spot f entries at ns lf s) (procedure_lines p).lines named count
      (λ i line x y e g n.
      let same : line ≡ i = omega (arith, e) in
      agrees program chosen near nears near_is fit checked number line p x y h (ap (slice_get (procedure_lines p).lines) same ∙ g) (ap (slice_get named) same ∙ n)) in
      let tables =
      ap (λ ts. map (λ to. 4 * L.line_at number to) ts) (all_same program chosen near nears near_is fit number p h)
      ∙ tables_joined (L.line_at number) (line_position lf (body_position f at s)) 0 named (λ to. line_same program chosen near nears near_is fit number to p h) in
      ap (λ c. map word_of c ++ (map word_of (lines_code L number p.frame 0 (procedure_lines p).lines) ++ map (λ line. 4 * L.line_at number line) (all_targets (procedure_lines p).lines))) entry
      ∙ ap (λ c. map word_of own ++ (map word_of c ++ map (λ line. 4 * L.line_at number line) (all_targets (procedure_lines p).lines))) lines
      ∙ ap (λ c. map word_of own ++ (map word_of code ++ c)) tables
      ∙ sym (append_assoc (map word_of own) (map word_of code) _)
      ∙ ap (λ c. c ++ joined (line_table f entries at ns lf s) 0 named) (sym (map-append word_of own code))
      ∙ ap (λ k. shape_image f entries at ns k s) (sym (own_lefts number p h))

  entry_same : (entry : ℕ) → entry < length program.procedures → L.entry_at entry ≡ slice_index entries entry
  entry_same entry h = by (slice_get_cases program.procedures entry).1
    where
      by :
          ((p : MidProcedure) × (entry < length program.procedures) × (slice_get program.procedures entry ≡ Some p) × (get_or program.procedures entry p ≡ p))
          ⊎ ((length program.procedures ≤ entry) × (slice_get program.procedures entry ≡ None))
          → L.entry_at entry ≡ slice_index entries entry
      by (inl k) = entry_there program chosen near nears near_is fit entry k.0 k.2
      by (inr k) = absurd (omega (arith, h, k.0))

  pub image_same : (entry : ℕ) → entry < length program.procedures → shaped_image program chosen entry ≡ image P L entry
  image_same entry h =
      let rep : List ℕ = replicate f.argument_words 0 in
      let table = map (λ at. 4 * at) entries in
      let start = map word_of (far_jump_code 1 f.start_at (slice_index entries entry)) in
      let code = joined (numbered_image f entries nears lefts) 0 S in
      six program.laid rep table start (map word_of end_code) (map word_of full_code) code
      ∙ ap (λ k. program.laid ++ (rep ++ (k ++ (start ++ (map word_of end_code ++ (map word_of full_code ++ code))))))
      (sym (entries_joined (shape program chosen) L 0 (entry_position f lefts S) program.procedures (entry_place_is program chosen near nears near_is fit)))
      ∙ ap (λ n. program.laid ++ (rep ++ (entries_table L 0 P.procedures ++ (map word_of (far_jump_code 1 f.start_at n) ++ (map word_of end_code ++ (map word_of full_code ++ code))))))
      (sym (entry_same entry h))
      ∙ ap (λ k. program.laid ++ (rep ++ (entries_table L 0 P.procedures ++ (map word_of (far_jump_code 1 f.start_at (L.entry_at entry)) ++ (map word_of end_code ++ (map word_of full_code ++ k))))))
      (sym (procedures_joined (shape program chosen) L 0 (numbered_image f entries nears lefts) program.procedures
      (λ i number p e g. let same : number ≡ i = omega (arith, e) in words_same number p (ap (slice_get program.procedures) same ∙ g))))

pub law_of_shaped_image : LawOfShapedImage
law_of_shaped_image program chosen entry checked fit h = (
  image_same program chosen checked fit entry h,
  sym (end_same program chosen (near program chosen checked fit) (nears program chosen checked fit) (near_is program chosen checked fit) fit),
)
