-- The spots of lines say what the layout decides: sizes, positions, and the code of all lines.
use Rattle.std.proofs.Common.{◌≡◌, ℕ, zero, suc, ◌+◌, ◌-◌, Bool, true, List, [], ◌∷◌, ◌++◌, length, map, take, Option, Some, None, option_map, refl, sym, ap, subst, ◌∙◌, arith}
use Rattle.std.specs.Prelude.{slice_get, slice_index, nat_le}
use Rattle.std.specs.List.{list_all}
use Rattle.std.proofs.lemmas.Option.{slice_get-map}
use Rattle.std.proofs.lemmas.List.{take-map}
use Rattle.mid_code.specs.declared.operation.Callee.TheVariants.{Procedure, Word}
use Rattle.mid_code.specs.declared.operation.Operation.{Operation}
use Rattle.mid_code.specs.declared.operation.Operation.TheVariants as operation
use Rattle.mid_code.specs.declared.program.MidProcedure.{MidProcedure}
use Rattle.mid_code.specs.declared.program.MidProgram.{MidProgram}
use Rattle.mid_code.specs.Checked.{is_block_size, is_checked_program}
use Rattle.mid_lines.specs.declared.line.Line.{Line}
use Rattle.mid_lines.specs.declared.line.Line.TheVariants.{Do, Branch, Switch, Jump, Lay, Landed, GiveBack, Lend, GiveBackLent, Return, Cut, Halt, Unhandled}
use Rattle.mid_lines.specs.declared.line.LineProcedure.{LineProcedure}
use Rattle.mid_lines.specs.declared.line.LineProgram.{LineProgram}
use Rattle.mid_lines.specs.Lines.{lines_in, line_of}
use Rattle.mid_lines.specs.Flattened.{procedure_lines, program_lines}
use Rattle.mid_lines.specs.LinesChecked.{takes, operation_calls, line_calls, line_fits}
use Rattle.mid_lines.proofs.Checking.{law_of_form}
use Rattle.mid_lines.proofs.Conjunctions.{back_true}
use Rattle.back_places.specs.declared.place.Place.{Place}
use Rattle.back_places.specs.Places.{Located}
use Rattle.back_places.specs.Passing.{parameters_code}
use Rattle.back_places.specs.Blocks.{room_code}
use Rattle.back_places.specs.LineCode.{save_code}
use Rattle.back_places.proofs.LinesInForm.{all_at, line_is}
use Rattle.back_trivial.specs.OwnSlots.{is_there}
use Rattle.back_allocation.specs.declared.placing.RegisterPlaces.{RegisterPlaces}
use Rattle.back_allocation.specs.LineSteps.{line_gives}
use Rattle.back_allocation.specs.Names.{named_operation, named_line, read_name, given_name}
use Rattle.back_allocation.specs.Allocated.{place_given, source_in, target_in}
use Rattle.back_allocation.proofs.Naming.{gives_named}
use Rattle.back_allocation.specs.Places.{place_at}
use Rattle.back_allocation.specs.ProgramPlaces.{places_for, PlacesFit}
use Rattle.back_layout.specs.Sizes.{unplaced, procedure_rests, entry_size, procedure_size, code_size, switch_targets, all_targets, lines_there}
use Rattle.back_layout.specs.Layout.{start_at, with_front, first_at, entry_place, body_place, line_place, table_place, placed}
use Rattle.back_layout.specs.ChosenPlaces.{placed_decided}
use Rattle.back_emit.specs.declared.spots.Spot.{Spot}
use Rattle.back_emit.specs.declared.spots.Sizing.{Sizing}
use Rattle.back_emit.specs.PlacedCode.{placed_entry}
use Rattle.back_emit.specs.PlacedSizes.{near_in, sizing_spot, AgreesNamed}
use Rattle.back_emit.specs.PlacedLines.{line_position, line_goes, operation_goes}
use Rattle.back_emit.specs.Agree.{OperationGoes, LineGoes, GoesToPlace, AgreesAt}
use Rattle.back_emit.proofs.PlacedRests.{law_of_placed_rests}
use Rattle.back_program_code.specs.declared.front.Front.{Front}
use Rattle.back_program_code.specs.declared.shapes.Shape.{Shape}
use Rattle.back_program_code.specs.Shapes.{shape_of, shapes_of, front_of, listed, full_position, first_position, sizing_of, entry_words, shape_lefts, shape_words, all_lefts, words_of, entry_position, all_entries, code_end, body_position, spot_in}
use Rattle.back_program_code.specs.Joined.{joined}
use Rattle.back_program_code.specs.ShapedImage.{table_position}
use Rattle.back_program_code.proofs.Joined.{joined_get, joined_index, joined_taken}
use Rattle.back_program_code.proofs.Ways.{way_same}

-- the entry of a procedure that is there
pub entry_code_same :
    (l : Located) (full full' arguments at frame : ℕ) (parameters : List Place) (o : Option LineProcedure) (p : LineProcedure) → full ≡ full' → o ≡ Some p
    → room_code full at frame ++ (save_code l (is_there o) ++ parameters_code arguments 0 parameters) ≡ placed_entry full' arguments at frame parameters
entry_code_same l full full' arguments at frame parameters o p e h =
    ap (λ k. room_code k at frame ++ (save_code l (is_there o) ++ parameters_code arguments 0 parameters)) e
    ∙ ap (λ k. room_code full' at frame ++ (save_code l (is_there k) ++ parameters_code arguments 0 parameters)) h

-- a word goes to the place of its register
goes_to_place : (places : List Place) (given : Option ℕ) → GoesToPlace places (place_given (place_at places) given) given
goes_to_place places None = tt
goes_to_place places (Some to) = refl

-- where a call goes, the procedure is there
procedure_called : (procedures : List LineProcedure) (n count : ℕ) (o : Option LineProcedure) → takes o count ≡ true → (p : LineProcedure) × (o ≡ Some p)
procedure_called procedures n count None h = absurd (cc h)
procedure_called procedures n count (Some p) h = (p, refl)

-- lines with names go where the lines go
targets_named : (f g : ℕ → ℕ) (x : Line) → switch_targets (named_line f g x) ≡ switch_targets x
targets_named f g (Do o) = refl
targets_named f g (Branch t otherwise) = refl
targets_named f g (Switch r targets) = refl
targets_named f g (Jump to) = refl
targets_named f g (Lay block words landing) = refl
targets_named f g (Landed r) = refl
targets_named f g (GiveBack words) = refl
targets_named f g (Lend block words) = refl
targets_named f g GiveBackLent = refl
targets_named f g (Return r) = refl
targets_named f g (Cut block word) = refl
targets_named f g (Halt r) = refl
targets_named f g (Unhandled class site condition) = refl

goes_by_operation : (entries : List ℕ) (f g : ℕ → ℕ) (o : Operation) → operation_goes entries (named_operation f g o) ≡ operation_goes entries o
goes_by_operation entries f g (operation.Call to (Procedure n) arguments) = refl
goes_by_operation entries f g (operation.Call to (Word r) arguments) = refl
goes_by_operation entries f g (operation.Move to from) = refl
goes_by_operation entries f g (operation.Constant to word) = refl
goes_by_operation entries f g (operation.Compute to which first second) = refl
goes_by_operation entries f g (operation.Load to base offset) = refl
goes_by_operation entries f g (operation.Store from base offset) = refl
goes_by_operation entries f g (operation.Request to words) = refl
goes_by_operation entries f g (operation.Draw to base offset) = refl
goes_by_operation entries f g (operation.Put from) = refl
goes_by_operation entries f g (operation.Get to) = refl

pub goes_named : (lefts entries : List ℕ) (body : ℕ) (f g : ℕ → ℕ) (x : Line) → line_goes lefts entries body (named_line f g x) ≡ line_goes lefts entries body x
goes_named lefts entries body f g (Do o) = goes_by_operation entries f g o
goes_named lefts entries body f g (Branch t otherwise) = refl
goes_named lefts entries body f g (Switch r targets) = refl
goes_named lefts entries body f g (Jump to) = refl
goes_named lefts entries body f g (Lay block words landing) = refl
goes_named lefts entries body f g (Landed r) = refl
goes_named lefts entries body f g (GiveBack words) = refl
goes_named lefts entries body f g (Lend block words) = refl
goes_named lefts entries body f g GiveBackLent = refl
goes_named lefts entries body f g (Return r) = refl
goes_named lefts entries body f g (Cut block word) = refl
goes_named lefts entries body f g (Halt r) = refl
goes_named lefts entries body f g (Unhandled class site condition) = refl

-- lines with some names, one for one
abbrev pub HaveNames : List Line → List Line → Type 0
HaveNames xs ys =
    (i : ℕ) (x y : Line) → slice_get xs i ≡ Some x → slice_get ys i ≡ Some y → (f : ℕ → ℕ) × ((g : ℕ → ℕ) × (y ≡ named_line f g x))

same_targets : (n : ℕ) (xs ys : List Line) → length ys ≡ length xs → HaveNames xs ys → all_targets (take n ys) ≡ all_targets (take n xs)
same_targets zero xs ys count h = refl
same_targets (suc n) [] [] count h = refl
same_targets (suc n) [] (y ∷ ys) count h = absurd (omega (arith, count))
same_targets (suc n) (x ∷ xs) [] count h = absurd (omega (arith, count))
same_targets (suc n) (x ∷ xs) (y ∷ ys) count h =
    let is = h 0 x y refl refl in
    ap (λ ts. ts ++ all_targets (take n ys)) (ap switch_targets is.1.1 ∙ targets_named is.0 is.1.0 x)
    ∙ ap (λ ts. switch_targets x ++ ts) (same_targets n xs ys (omega (arith, count)) (λ i u w e g. h (suc i) u w e g))

every_target : (xs ys : List Line) → length ys ≡ length xs → HaveNames xs ys → all_targets ys ≡ all_targets xs
every_target [] [] count h = refl
every_target [] (y ∷ ys) count h = absurd (omega (arith, count))
every_target (x ∷ xs) [] count h = absurd (omega (arith, count))
every_target (x ∷ xs) (y ∷ ys) count h =
    let is = h 0 x y refl refl in
    ap (λ ts. ts ++ all_targets ys) (ap switch_targets is.1.1 ∙ targets_named is.0 is.1.0 x)
    ∙ ap (λ ts. switch_targets x ++ ts) (every_target xs ys (omega (arith, count)) (λ i u w e g. h (suc i) u w e g))

module _ (program : MidProgram) where
  pub procedure_there :
      (number : ℕ) (p : MidProcedure) → slice_get program.procedures number ≡ Some p → slice_get (program_lines program).procedures number ≡ Some (procedure_lines p)
  procedure_there number p h = slice_get-map procedure_lines program.procedures number ∙ ap (option_map procedure_lines) h

  pub line_there :
      (number line : ℕ) (p : MidProcedure) (x : Line) → slice_get program.procedures number ≡ Some p → slice_get (procedure_lines p).lines line ≡ Some x
      → line_of (program_lines program) number line ≡ Some x
  line_there number line p x h e = ap (λ o. slice_get (lines_in o) line) (procedure_there number p h) ∙ e

module _ (program : MidProgram) (chosen : List RegisterPlaces) where
  abbrev P : LineProgram
  P = program_lines program

  abbrev f : Front
  f = front_of program

  abbrev S : List Shape
  S = shapes_of program chosen

  -- the shape of a procedure, and the places of its registers
  abbrev pub shape : (number : ℕ) → MidProcedure → Shape
  shape number p = shape_of (places_for chosen number) p

  abbrev places : (number : ℕ) → List Place
  places number = (places_for chosen number).places

  -- the decisions with these jumps near
  abbrev pub with_jumps : (near : (number line : ℕ) → Bool) → Located
  with_jumps near = record (with_front P (placed_decided program chosen)) { near = near }

  pub shape_there : (number : ℕ) (p : MidProcedure) → slice_get program.procedures number ≡ Some p → slice_get S number ≡ Some (shape number p)
  shape_there number p h = joined_get shape 0 number number p program.procedures (omega arith) h

  -- the lines of a procedure with names
  abbrev pub named : (number : ℕ) → List Line
  named number = (places_for chosen number).lines

  source_same :
      (number line v : ℕ) (p : MidProcedure) (x y : Line) → slice_get program.procedures number ≡ Some p → slice_get (procedure_lines p).lines line ≡ Some x
      → slice_get (named number) line ≡ Some y
      → source_in (place_at (places number)) (line_of P number line) (slice_get (named number) line) v ≡ place_at (places number) (read_name x y v)
  source_same number line v p x y h e g =
      ap (λ o. source_in (place_at (places number)) o (slice_get (named number) line) v) (line_there program number line p x h e)
      ∙ ap (λ o. source_in (place_at (places number)) (Some x) o v) g

  target_same :
      (number line : ℕ) (p : MidProcedure) (x y : Line) → slice_get program.procedures number ≡ Some p → slice_get (procedure_lines p).lines line ≡ Some x
      → slice_get (named number) line ≡ Some y → y ≡ named_line (read_name x y) (given_name y) x
      → GoesToPlace (places number) (target_in (place_at (places number)) (line_of P number line) (slice_get (named number) line)) (option_map (given_name y) (line_gives x))
  target_same number line p x y h e g is =
      let there = ap (λ o. target_in (place_at (places number)) o (slice_get (named number) line)) (line_there program number line p x h e)
      ∙ ap (target_in (place_at (places number)) (Some x)) g in
      subst (λ q. GoesToPlace (places number) q (option_map (given_name y) (line_gives x))) (sym there)
      (subst (λ o. GoesToPlace (places number) (place_given (place_at (places number)) o) (option_map (given_name y) (line_gives x)))
      (sym (ap line_gives is ∙ gives_named (read_name x y) (given_name y) x))
      (goes_to_place (places number) (option_map (given_name y) (line_gives x))))

  pub full_same : start_at P (placed_decided program chosen) + 2 + 3 ≡ full_position f
  full_same = omega arith

  nowhere : (l : Located) (number line : ℕ) (z : Sizing) (ways : List _) (nears : List Bool) (x : Line) → LineGoes (unplaced l) number (sizing_spot z ways nears line) x
  nowhere l number line z ways nears (Do (operation.Call to (Procedure n) arguments)) = refl
  nowhere l number line z ways nears (Do (operation.Call to (Word r) arguments)) = tt
  nowhere l number line z ways nears (Do o) = tt
  nowhere l number line z ways nears (Branch t otherwise) = refl
  nowhere l number line z ways nears (Jump to) = refl
  nowhere l number line z ways nears (Lay block words landing) = refl
  nowhere l number line z ways nears x = tt

  -- a table of near jumps says what was decided
  abbrev pub SameNear : ((number line : ℕ) → Bool) → List (List Bool) → Type 0
  SameNear near nears =
      (number line : ℕ) (p : MidProcedure) (x : Line) → slice_get program.procedures number ≡ Some p → slice_get (procedure_lines p).lines line ≡ Some x
      → near number line ≡ near_in (slice_get (listed (slice_get nears number)) line)

  module _ (near : (number line : ℕ) → Bool) (nears : List (List Bool)) (same : SameNear near nears) (fit : PlacesFit program chosen) where
    -- the names of a line
    naming :
        (number line : ℕ) (p : MidProcedure) (x y : Line) (h : slice_get program.procedures number ≡ Some p) → slice_get (procedure_lines p).lines line ≡ Some x
        → slice_get (named number) line ≡ Some y → y ≡ named_line (read_name x y) (given_name y) x
    naming number line p x y h e g = ((fit.each number p h).stand.named.each line x y e g).is

    pub named_count : (number : ℕ) (p : MidProcedure) → slice_get program.procedures number ≡ Some p → length (named number) ≡ length (procedure_lines p).lines
    named_count number p h = (fit.each number p h).stand.named.count

    targets_same :
        (number : ℕ) (p : MidProcedure) → slice_get program.procedures number ≡ Some p → (n : ℕ)
        → all_targets (take n (named number)) ≡ all_targets (take n (procedure_lines p).lines)
    targets_same number p h n =
        same_targets n (procedure_lines p).lines (named number) (named_count number p h) (λ i x y e g. (read_name x y, (given_name y, naming number i p x y h e g)))

    abbrev L : Located
    L = with_jumps near

    abbrev lefts : List (List ℕ)
    lefts = all_lefts f nears S

    abbrev entries : List ℕ
    entries = all_entries f lefts S

    -- what is left in a procedure
    abbrev own_nears : ℕ → List Bool
    own_nears number = listed (slice_get nears number)

    abbrev own_lefts : (number : ℕ) → MidProcedure → List ℕ
    own_lefts number p = shape_lefts f (own_nears number) (shape number p)

    sized :
        (number line : ℕ) (p : MidProcedure) (x y : Line) → slice_get program.procedures number ≡ Some p → slice_get (procedure_lines p).lines line ≡ Some x
        → slice_get (named number) line ≡ Some y
        → AgreesAt (unplaced L) (places number) number p.frame line (sizing_spot (sizing_of f (shape number p)) (shape number p).ways (own_nears number) line) x
        (read_name x y) (given_name y)
    sized number line p x y h e g = record {
      source = λ v. source_same number line v p x y h e g;
      target = target_same number line p x y h e g (naming number line p x y h e g);
      linked = refl;
      line_is = refl;
      way = way_same program number line line p x h e (omega arith);
      next_way = way_same program number line (line + 1) p x h e (omega arith);
      frame_is = refl;
      near = same number line p x h e;
      at = refl;
      next = refl;
      goes = nowhere L number line (sizing_of f (shape number p)) (shape number p).ways (own_nears number) x;
      table = refl;
      arguments_at = refl;
      procedures_at = refl;
      full_at = full_same;
    }

    rests_same : (number : ℕ) (p : MidProcedure) → slice_get program.procedures number ≡ Some p → procedure_rests L number (slice_get P.procedures number) ≡ own_lefts number p
    rests_same number p h =
        ap (procedure_rests L number) (procedure_there program number p h)
        ∙ law_of_placed_rests L (places number) number p.frame (sizing_of f (shape number p)) (shape number p).ways (own_nears number) (procedure_lines p).lines (named number)
        (named_count number p h)
        (λ line x y e g.
        record { read = read_name x y; given = given_name y; is = naming number line p x y h e g; agrees = sized number line p x y h e g })

    pub lefts_there : (number : ℕ) (p : MidProcedure) → slice_get program.procedures number ≡ Some p → listed (slice_get lefts number) ≡ own_lefts number p
    lefts_there number p h =
        ap listed (joined_get (λ n s. shape_lefts f (listed (slice_get nears n)) s) 0 number number (shape number p) S (omega arith) (shape_there number p h))

    entry_same : (number : ℕ) (p : MidProcedure) → slice_get program.procedures number ≡ Some p → entry_size L number (slice_get P.procedures number) ≡ entry_words f (shape number p)
    entry_same number p h =
        ap (entry_size L number) (procedure_there program number p h)
        ∙ ap length (entry_code_same L (L.full_at) (full_position f) f.arguments_at 0 p.frame (places_for chosen number).parameters (slice_get P.procedures number) (procedure_lines p) full_same (procedure_there program number p h))

    pub all_same : (number : ℕ) (p : MidProcedure) → slice_get program.procedures number ≡ Some p → all_targets (procedure_lines p).lines ≡ all_targets (named number)
    all_same number p h =
        sym (every_target (procedure_lines p).lines (named number) (named_count number p h) (λ i x y e g. (read_name x y, (given_name y, naming number i p x y h e g))))

    size_same :
        (number : ℕ) (p : MidProcedure) → slice_get program.procedures number ≡ Some p
        → procedure_size L number (procedure_lines p) ≡ shape_words f (listed (slice_get lefts number)) (shape number p)
    size_same number p h =
        let there = procedure_there program number p h in
        let a : entry_size L number (Some (procedure_lines p)) ≡ entry_words f (shape number p) = ap (entry_size L number) (sym there) ∙ entry_same number p h in
        let b : procedure_rests L number (Some (procedure_lines p)) ≡ listed (slice_get lefts number) =
        ap (procedure_rests L number) (sym there) ∙ rests_same number p h ∙ sym (lefts_there number p h) in
        ap (λ n. n + slice_index (procedure_rests L number (Some (procedure_lines p))) 0 + length (all_targets (procedure_lines p).lines)) a
        ∙ ap (λ r. entry_words f (shape number p) + slice_index r 0 + length (all_targets (procedure_lines p).lines)) b
        ∙ ap (λ ts. entry_words f (shape number p) + slice_index (listed (slice_get lefts number)) 0 + length ts) (all_same number p h)

    sizes_same :
        (from : ℕ) (ps : List MidProcedure) → ((i number : ℕ) (p : MidProcedure) → number ≡ from + i → slice_get ps i ≡ Some p → slice_get program.procedures number ≡ Some p)
        → code_size L from (map procedure_lines ps) ≡ words_of f lefts from (joined (λ n q. shape n q ∷ []) from ps)
    sizes_same from [] h = refl
    sizes_same from (p ∷ ps) h =
        ap (λ n. n + code_size L (from + 1) (map procedure_lines ps)) (size_same from p (h 0 from p (omega arith) refl))
        ∙ ap (λ n. shape_words f (listed (slice_get lefts from)) (shape from p) + n)
        (sizes_same (from + 1) ps (λ i number q e g. h (suc i) number q (omega (arith, e)) g))

    there_taken : (n : ℕ) (ps : List MidProcedure) (i : ℕ) (p : MidProcedure) → slice_get (take n ps) i ≡ Some p → slice_get ps i ≡ Some p
    there_taken zero ps i p h = absurd (cc h)
    there_taken (suc n) [] i p h = h
    there_taken (suc n) (q ∷ ps) zero p h = h
    there_taken (suc n) (q ∷ ps) (suc i) p h = there_taken n ps i p h

    there_from : (n i number : ℕ) (p : MidProcedure) → number ≡ 0 + i → slice_get (take n program.procedures) i ≡ Some p → slice_get program.procedures number ≡ Some p
    there_from n i number p e g =
        let same_place : number ≡ i = omega (arith, e) in
        ap (slice_get program.procedures) same_place ∙ there_taken n program.procedures i p g

    taken_same : (n : ℕ) → code_size L 0 (take n P.procedures) ≡ words_of f lefts 0 (take n S)
    taken_same n =
        ap (code_size L 0) (take-map procedure_lines n program.procedures) ∙ sizes_same 0 (take n program.procedures) (there_from n)
        ∙ ap (words_of f lefts 0) (sym (joined_taken shape 0 n program.procedures))

    first_same : first_at P L ≡ first_position f
    first_same = omega arith

    pub end_same : first_at P L + code_size L 0 P.procedures ≡ code_end f lefts S
    end_same =
        ap (λ n. n + code_size L 0 P.procedures) first_same
        ∙ ap (λ n. first_position f + n)
        (sizes_same 0 program.procedures (λ i number p e g. let same_place : number ≡ i = omega (arith, e) in ap (slice_get program.procedures) same_place ∙ g))

    pub entry_place_is : (number : ℕ) → entry_place P L number ≡ entry_position f lefts S number
    entry_place_is number = ap (λ n. n + code_size L 0 (take number P.procedures)) first_same ∙ ap (λ n. first_position f + n) (taken_same number)

    pub entry_listed : (number : ℕ) (s : Shape) → slice_get S number ≡ Some s → entry_place P L number ≡ slice_index entries number
    entry_listed number s h =
        entry_place_is number ∙ sym (joined_index Shape (λ n t. entry_position f lefts S n) 0 number number s S (omega arith) h)

    pub entry_there : (number : ℕ) (p : MidProcedure) → slice_get program.procedures number ≡ Some p → entry_place P L number ≡ slice_index entries number
    entry_there number p h = entry_listed number (shape number p) (shape_there number p h)

    body_same : (number : ℕ) (p : MidProcedure) → slice_get program.procedures number ≡ Some p → body_place P L number ≡ body_position f (slice_index entries number) (shape number p)
    body_same number p h =
        ap (λ n. n + entry_size L number (slice_get P.procedures number)) (entry_there number p h) ∙ ap (λ n. slice_index entries number + n) (entry_same number p h)

    pub line_same :
        (number line : ℕ) (p : MidProcedure) → slice_get program.procedures number ≡ Some p
        → line_place P L number line ≡ line_position (own_lefts number p) (body_position f (slice_index entries number) (shape number p)) line
    line_same number line p h =
        ap (λ n. n + (slice_index (procedure_rests L number (slice_get P.procedures number)) 0 - slice_index (procedure_rests L number (slice_get P.procedures number)) line)) (body_same number p h)
        ∙ ap (λ r. body_position f (slice_index entries number) (shape number p) + (slice_index r 0 - slice_index r line)) (rests_same number p h)

    pub table_same :
        (number line : ℕ) (p : MidProcedure) → slice_get program.procedures number ≡ Some p
        → table_place P L number line ≡ table_position f entries (slice_index entries number) (own_nears number) (own_lefts number p) (shape number p) line
    table_same number line p h =
        ap (λ n. n + slice_index (procedure_rests L number (slice_get P.procedures number)) 0 + length (all_targets (take line (lines_there (slice_get P.procedures number))))) (body_same number p h)
        ∙ ap (λ r. body_position f (slice_index entries number) (shape number p) + slice_index r 0 + length (all_targets (take line (lines_there (slice_get P.procedures number))))) (rests_same number p h)
        ∙ ap (λ o. body_position f (slice_index entries number) (shape number p) + slice_index (own_lefts number p) 0 + length (all_targets (take line (lines_there o)))) (procedure_there program number p h)
        ∙ ap (λ ts. body_position f (slice_index entries number) (shape number p) + slice_index (own_lefts number p) 0 + length ts) (sym (targets_same number p h line))

    module _ (checked : is_checked_program program ≡ true) where
      called : (n : ℕ) (q : LineProcedure) → slice_get P.procedures n ≡ Some q → (p : MidProcedure) × (slice_get program.procedures n ≡ Some p)
      called n q h = by (slice_get program.procedures n) refl
        where
          by : (o : Option MidProcedure) → slice_get program.procedures n ≡ o → (p : MidProcedure) × (slice_get program.procedures n ≡ Some p)
          by None e = absurd (cc (sym h ∙ slice_get-map procedure_lines program.procedures n ∙ ap (option_map procedure_lines) e))
          by (Some p) e = (p, e)

      -- a line of a program in form calls what is there
      calls : (number line : ℕ) (x : Line) → line_of P number line ≡ Some x → line_calls P.procedures x ≡ true
      calls number line x e =
          let i = line_is P number line x (law_of_form program checked) e in
          let p = i.procedure in
          let rest = back_true (nat_le p.parameters p.registers) _ i.sound in
          let both = back_true (is_block_size p.frame) _ rest in
          all_at (line_calls P.procedures) p.lines line x (back_true (list_all (line_fits p.registers (length p.lines)) p.lines) (list_all (line_calls P.procedures) p.lines) both) i.line_there

      operation_goes_same :
          (number : ℕ) (s : Spot) (o : Operation) → operation_calls P.procedures o ≡ true → s.to ≡ operation_goes entries o → OperationGoes (placed P L) s o
      operation_goes_same number s (operation.Call to (Procedure n) arguments) c e =
          let q = procedure_called P.procedures n (length arguments) (slice_get P.procedures n) c in
          let p = called n q.0 q.1 in
          entry_there n p.0 p.1 ∙ sym e
      operation_goes_same number s (operation.Call to (Word r) arguments) c e = tt
      operation_goes_same number s o c e = tt

      goes_same :
          (number : ℕ) (p : MidProcedure) (s : Spot) (x : Line) → slice_get program.procedures number ≡ Some p → line_calls P.procedures x ≡ true
          → s.to ≡ line_goes (own_lefts number p) entries (body_position f (slice_index entries number) (shape number p)) x → LineGoes (placed P L) number s x
      goes_same number p s (Do o) h c e = operation_goes_same number s o c e
      goes_same number p s (Branch t otherwise) h c e = line_same number otherwise p h ∙ sym e
      goes_same number p s (Jump to) h c e = line_same number to p h ∙ sym e
      goes_same number p s (Lay block words landing) h c e = line_same number landing p h ∙ sym e
      goes_same number p s x h c e = tt

      abbrev spot : (number line : ℕ) → MidProcedure → Line → Spot
      spot number line p x =
          spot_in f entries (slice_index entries number) (own_nears number) (own_lefts number p) (shape number p)
          (table_position f entries (slice_index entries number) (own_nears number) (own_lefts number p) (shape number p) line) line x

      agrees_at :
          (number line : ℕ) (p : MidProcedure) (x y : Line) → slice_get program.procedures number ≡ Some p → slice_get (procedure_lines p).lines line ≡ Some x
          → slice_get (named number) line ≡ Some y
          → AgreesAt (placed P L) (places number) number p.frame line (spot number line p y) x (read_name x y) (given_name y)
      agrees_at number line p x y h e g = record {
        source = λ v. source_same number line v p x y h e g;
        target = target_same number line p x y h e g (naming number line p x y h e g);
        linked = refl;
        line_is = refl;
        way = way_same program number line line p x h e (omega arith);
        next_way = way_same program number line (line + 1) p x h e (omega arith);
        frame_is = refl;
        near = same number line p x h e;
        at = line_same number line p h;
        next = line_same number (line + 1) p h;
        goes =
            goes_same number p (spot number line p y) x h (calls number line x (line_there program number line p x h e))
            (ap (line_goes (own_lefts number p) entries (body_position f (slice_index entries number) (shape number p))) (naming number line p x y h e g)
            ∙ goes_named (own_lefts number p) entries (body_position f (slice_index entries number) (shape number p)) (read_name x y) (given_name y) x);
        table = table_same number line p h;
        arguments_at = refl;
        procedures_at = refl;
        full_at = full_same;
      }

      pub agrees :
          (number line : ℕ) (p : MidProcedure) (x y : Line) → slice_get program.procedures number ≡ Some p → slice_get (procedure_lines p).lines line ≡ Some x
          → slice_get (named number) line ≡ Some y → AgreesNamed (placed P L) (places number) number p.frame line (spot number line p y) x y
      agrees number line p x y h e g =
          record { read = read_name x y; given = given_name y; is = naming number line p x y h e g; agrees = agrees_at number line p x y h e g }
