-- The words of the image have the program: each piece of code stands at its position.
use Rattle.std.proofs.Common.{◌≡◌, ℕ, zero, suc, ◌+◌, ◌-◌, ◌*◌, ◌^◌, ◌<◌, ◌≤◌, List, [], ◌∷◌, ◌++◌, length, map, take, replicate, Option, Some, None, refl, sym, ap, subst, ◌∙◌, arith, length-append}
use Rattle.std.specs.Prelude.{slice_get, slice_index}
use Rattle.std.proofs.lemmas.List.{map-append, length-map, length-replicate}
use Rattle.rv_encode.specs.declared.instruction.Instr.{Instr}
use Rattle.rv_encode.specs.Encodes.{word_of}
use Rattle.mid_lines.specs.declared.line.Line.{Line}
use Rattle.mid_lines.specs.declared.line.Line.TheVariants.{Switch}
use Rattle.mid_lines.specs.declared.line.LineProcedure.{LineProcedure}
use Rattle.mid_lines.specs.declared.line.LineProgram.{LineProgram}
use Rattle.mid_lines.specs.Lines.{lines_in, line_of}
use Rattle.mid_lines.specs.StackLaw.{frame_in, frame_of}
use Rattle.back_places.specs.declared.place.Place.{Place}
use Rattle.back_places.specs.Places.{Located}
use Rattle.back_places.specs.Blocks.{full_code, end_code}
use Rattle.back_places.specs.LineCode.{line_code, behind_code, entry_code}
use Rattle.back_places.specs.Relation.{Stands, Names, HasProgram}
use Rattle.back_places.specs.StepLaw.{Known}
use Rattle.back_trivial.specs.OwnSlots.{IsPlacedWell}
use Rattle.back_layout.specs.Sizes.{rests, procedure_rests, entry_size, procedure_size, code_size, switch_targets, all_targets, lines_there}
use Rattle.back_layout.specs.Layout.{start_at, first_at, entry_place, body_place, line_place, table_place, back_place, placed, with_near, laid_out}
use Rattle.back_layout.specs.Image.{lines_code, procedure_words, procedures_words, entries_table, start_code, image}
use Rattle.back_layout.specs.Laws.{LawOfWords}
use Rattle.back_layout.proofs.Positions.{entry_is, back_is, behind_is, line_within}
use Rattle.back_layout.proofs.Instructions.{AreInstrs, both_are, far_jump_is, full_is, end_is}
use Rattle.rv_encode.proofs.Fit.{word_of-fits}
use Rattle.back_layout.proofs.LineInstructions as instructions
use Rattle.back_layout.proofs.Near.{procedure_there}
use Rattle.back_layout.proofs.Pieces.{IsIn, front_of, back_of, whole_in, moved_to, same_piece, within, WordAt, word_at, code_in}

-- lists

get_mapped : {X : Type 0} (f : X → ℕ) (xs : List X) (i : ℕ) (x : X) → slice_get xs i ≡ Some x → slice_get (map f xs) i ≡ Some (f x)
get_mapped f [] i x h = absurd (cc h)
get_mapped f (y ∷ ys) zero x h = let same : y ≡ x = cc h in ap (λ z. Some (f z)) same
get_mapped f (y ∷ ys) (suc i) x h = get_mapped f ys i x h

get_front : (xs ys : List ℕ) (i x : ℕ) → slice_get xs i ≡ Some x → slice_get (xs ++ ys) i ≡ Some x
get_front [] ys i x h = absurd (cc h)
get_front (z ∷ zs) ys zero x h = h
get_front (z ∷ zs) ys (suc i) x h = get_front zs ys i x h

get_back : (xs ys : List ℕ) (i j : ℕ) → j ≡ length xs + i → slice_get (xs ++ ys) j ≡ slice_get ys i
get_back [] ys i j e = let same : j ≡ i = omega (arith, e) in ap (λ k. slice_get ys k) same
get_back (z ∷ zs) ys i zero e = absurd (omega (arith, e))
get_back (z ∷ zs) ys i (suc j) e = get_back zs ys i j (omega (arith, e))

-- where the lines of a switch are in the tables of its procedure
table_there :
    (xs : List Line) (line r : ℕ) (targets : List ℕ) (i to j : ℕ) → slice_get xs line ≡ Some (Switch r targets) → slice_get targets i ≡ Some to
    → j ≡ length (all_targets (take line xs)) + i → slice_get (all_targets xs) j ≡ Some to
table_there [] line r targets i to j h g e = absurd (cc h)
table_there (x ∷ xs) zero r targets i to j h g e =
    let same : x ≡ Switch r targets = cc h in
    let there : j ≡ i = omega (arith, e) in
    ap (λ y. slice_get (switch_targets y ++ all_targets xs) j) same ∙ ap (λ k. slice_get (targets ++ all_targets xs) k) there ∙ get_front targets (all_targets xs) i to g
table_there (x ∷ xs) (suc line) r targets i to j h g e =
    get_back (switch_targets x) (all_targets xs) (length (all_targets (take line xs)) + i) j
    (omega (arith, e, length-append (switch_targets x) (all_targets (take line xs))))
    ∙ table_there xs line r targets i to (length (all_targets (take line xs)) + i) h g refl

rests_end : (l : Located) (number frame line : ℕ) (xs : List Line) → slice_index (rests l number frame line xs) (length xs) ≡ 0
rests_end l number frame line [] = refl
rests_end l number frame line (x ∷ xs) = rests_end l number frame (line + 1) xs

procedure_rests_end : (l : Located) (number : ℕ) (o : Option LineProcedure) → slice_index (procedure_rests l number o) (length (lines_in o)) ≡ 0
procedure_rests_end l number None = refl
procedure_rests_end l number (Some p) = rests_end l number p.frame 0 p.lines

module _ (program : LineProgram) (l : Located) where
  abbrev P : Located
  P = placed program l

  -- lines

  -- these are lines of a procedure, from a line on
  abbrev AreLines : (number line : ℕ) → List Line → Type 0
  AreLines number line xs = (j m : ℕ) (y : Line) → m ≡ line + j → slice_get xs j ≡ Some y → line_of program number m ≡ Some y

  rest_lines : (number line : ℕ) (x : Line) (xs : List Line) → AreLines number line (x ∷ xs) → AreLines number (line + 1) xs
  rest_lines number line x xs h j m y e g = h (suc j) m y (omega (arith, e)) g

  first_there : (number line : ℕ) (x : Line) (xs : List Line) → AreLines number line (x ∷ xs) → line_of program number line ≡ Some x
  first_there number line x xs h = h 0 line x (omega arith) refl

  line_words : (number line : ℕ) → Line → List ℕ
  line_words number line x = map word_of (line_code P number (frame_of program number).words line x)

  lines_long :
      (number line : ℕ) (xs : List Line) → AreLines number line xs
      → line_place program l number line + length (lines_code P number (frame_of program number).words line xs) ≡ line_place program l number (line + length xs)
  lines_long number line [] h =
      let none : line + 0 ≡ line = omega arith in
      let same = ap (line_place program l number) none in
      omega (arith, same)
  lines_long number line (x ∷ xs) h =
      let frame = (frame_of program number).words in
      let there = first_there number line x xs h in
      let a = back_is program l number line x there in
      let b = behind_is program l number line x there in
      let c = lines_long number (line + 1) xs (rest_lines number line x xs h) in
      let more : line + 1 + length xs ≡ line + suc (length xs) = omega arith in
      let d = ap (line_place program l number) more in
      by (line_place program l number line) (back_place program l number line) (line_place program l number (line + 1)) _ _
      (length (line_code P number frame line x)) (length (behind_code P number line x)) (length (lines_code P number frame (line + 1) xs)) _
      a b c d
      (length-append (line_code P number frame line x) (behind_code P number line x ++ lines_code P number frame (line + 1) xs)
      ∙ ap (λ n. length (line_code P number frame line x) + n) (length-append (behind_code P number line x) (lines_code P number frame (line + 1) xs)))
    where
      by : (at back next end end' code behind rest all : ℕ) → back ≡ at + code → next ≡ back + behind → next + rest ≡ end → end ≡ end'
          → all ≡ code + (behind + rest) → at + all ≡ end'
      by at back next end end' code behind rest all a b c d e = omega (arith, a, b, c, d, e)

  -- the code of a line, and what stands behind it, at their positions
  record LineIn (words : List ℕ) (number line : ℕ) (x : Line) : Type 0 where
    pub code : IsIn words (line_place program l number line) (map word_of (line_code P number (frame_of program number).words line x))
    pub behind : IsIn words (back_place program l number line) (map word_of (behind_code P number line x))

  three_parts : (a b c : List Instr) → map word_of (a ++ (b ++ c)) ≡ map word_of a ++ (map word_of b ++ map word_of c)
  three_parts a b c = map-append word_of a (b ++ c) ∙ ap (λ xs. map word_of a ++ xs) (map-append word_of b c)

  lines_are_in :
      (words : List ℕ) (number line : ℕ) (xs : List Line) (i m : ℕ) (x : Line) → AreLines number line xs → m ≡ line + i → slice_get xs i ≡ Some x
      → IsIn words (line_place program l number line) (map word_of (lines_code P number (frame_of program number).words line xs)) → LineIn words number m x
  lines_are_in words number line [] i m x h e g k = absurd (cc g)
  lines_are_in words number line (y ∷ ys) i m x h e g k =
      by i g e (λ j d f. lines_are_in words number (line + 1) ys j m x (rest_lines number line y ys h) d f rest)
    where
      frame : ℕ
      frame = (frame_of program number).words

      there : line_of program number line ≡ Some y
      there = first_there number line y ys h

      parts :
          IsIn words (line_place program l number line)
          (map word_of (line_code P number (frame_of program number).words line y)
          ++ (map word_of (behind_code P number line y) ++ map word_of (lines_code P number (frame_of program number).words (line + 1) ys)))
      parts =
          same_piece words (line_place program l number line) _ _
          (three_parts (line_code P number (frame_of program number).words line y) (behind_code P number line y) (lines_code P number (frame_of program number).words (line + 1) ys)) k

      behind :
          IsIn words (back_place program l number line)
          (map word_of (behind_code P number line y) ++ map word_of (lines_code P number (frame_of program number).words (line + 1) ys))
      behind =
          back_of words (line_place program l number line) (back_place program l number line) (map word_of (line_code P number (frame_of program number).words line y)) _
          (back_is program l number line y there
          ∙ ap (λ n. line_place program l number line + n) (sym (length-map (line_code P number (frame_of program number).words line y) word_of))) parts

      rest : IsIn words (line_place program l number (line + 1)) (map word_of (lines_code P number (frame_of program number).words (line + 1) ys))
      rest =
          back_of words (back_place program l number line) (line_place program l number (line + 1)) (map word_of (behind_code P number line y)) _
          (behind_is program l number line y there ∙ ap (λ n. back_place program l number line + n) (sym (length-map (behind_code P number line y) word_of))) behind

      here : LineIn words number line y
      here = record {
        code = front_of words (line_place program l number line) (map word_of (line_code P number (frame_of program number).words line y)) _ parts;
        behind = front_of words (back_place program l number line) (map word_of (behind_code P number line y)) _ behind;
      }

      by : (i : ℕ) → slice_get (y ∷ ys) i ≡ Some x → m ≡ line + i → ((j : ℕ) → m ≡ line + 1 + j → slice_get ys j ≡ Some x → LineIn words number m x) → LineIn words number m x
      by zero g e later =
          let same : y ≡ x = cc g in
          let at : line ≡ m = omega (arith, e) in
          subst (λ n. LineIn words number n x) at (subst (λ z. LineIn words number line z) same here)
      by (suc i) g e later = later i (omega (arith, e)) g

  -- procedures

  -- the lines and the tables of a procedure, behind its entry
  record ProcedureIn (words : List ℕ) (number : ℕ) (p : LineProcedure) : Type 0 where
    pub entry : IsIn words (entry_place program l number) (map word_of (entry_code P number p.frame))
    pub lines : IsIn words (line_place program l number 0) (map word_of (lines_code P number (frame_of program number).words 0 p.lines))
    pub tables :
        IsIn words (body_place program l number + slice_index (procedure_rests l number (slice_get program.procedures number)) 0)
        (map (λ line. 4 * line_place program l number line) (all_targets p.lines))

  of_procedure : (number : ℕ) (p : LineProcedure) → slice_get program.procedures number ≡ Some p → AreLines number 0 p.lines
  of_procedure number p h j m y e g =
      let at : m ≡ j = omega (arith, e) in
      ap (λ o. slice_get (lines_in o) m) h ∙ ap (λ k. slice_get p.lines k) at ∙ g

  same_frame : (number : ℕ) (p : LineProcedure) → slice_get program.procedures number ≡ Some p → p.frame ≡ (frame_of program number).words
  same_frame number p h = sym (ap (λ o. (frame_in o).words) h)

  -- how long the code of its lines is
  body_long :
      (number : ℕ) (p : LineProcedure) → slice_get program.procedures number ≡ Some p
      → length (lines_code P number (frame_of program number).words 0 p.lines) ≡ slice_index (procedure_rests l number (slice_get program.procedures number)) 0
  body_long number p h =
      let left = procedure_rests l number (slice_get program.procedures number) in
      let a = lines_long number 0 p.lines (of_procedure number p h) in
      let from_none : 0 + length p.lines ≡ length p.lines = omega arith in
      let last : length p.lines ≡ length (lines_in (slice_get program.procedures number)) = sym (ap (λ o. length (lines_in o)) h) in
      let b = ap (slice_index left) (from_none ∙ last) ∙ procedure_rests_end l number (slice_get program.procedures number) in
      by (body_place program l number) (slice_index left 0) (slice_index left (0 + length p.lines)) (length (lines_code P number (frame_of program number).words 0 p.lines)) a b
    where
      by : (body first last code : ℕ) → body + (first - first) + code ≡ body + (first - last) → last ≡ 0 → code ≡ first
      by body first last code a b = omega (arith, a, b)

  procedure_long :
      (number : ℕ) (p : LineProcedure) → slice_get program.procedures number ≡ Some p → length (procedure_words P number p) ≡ procedure_size l number p
  procedure_long number p h =
      let entry = map word_of (entry_code P number p.frame) in
      let lines = map word_of (lines_code P number p.frame 0 p.lines) in
      let tables = map (λ line. 4 * line_place program l number line) (all_targets p.lines) in
      let a = entry_is program l number p h in
      let framed = ap (λ n. length (lines_code P number n 0 p.lines)) (same_frame number p h) in
      let size = ap (λ o. slice_index (procedure_rests l number o) 0) h in
      let sized = ap (entry_size l number) h in
      by (entry_place program l number) (entry_size l number (slice_get program.procedures number)) (slice_index (procedure_rests l number (slice_get program.procedures number)) 0)
      (length (entry_code P number p.frame)) (length entry) (length lines) (length tables) (length (lines ++ tables)) (length (entry ++ (lines ++ tables))) _ _ _ a
      (length-map (entry_code P number p.frame) word_of)
      (length-map (lines_code P number p.frame 0 p.lines) word_of ∙ framed ∙ body_long number p h)
      (length-map (all_targets p.lines) (λ line. 4 * line_place program l number line)) (length-append lines tables) (length-append entry (lines ++ tables)) sized size
    where
      by : (at es first code e c t ct all es' first' targets : ℕ) → at + es + (first - first) ≡ at + code → e ≡ code → c ≡ first → t ≡ targets → ct ≡ c + t → all ≡ e + ct
          → es ≡ es' → first ≡ first' → all ≡ es' + first' + targets
      by at es first code e c t ct all es' first' targets a b d f g h i j = omega (arith, a, b, d, f, g, h, i, j)

  procedure_in :
      (words : List ℕ) (number : ℕ) (p : LineProcedure) → slice_get program.procedures number ≡ Some p
      → IsIn words (entry_place program l number) (procedure_words P number p) → ProcedureIn words number p
  procedure_in words number p h k =
      let entry = map word_of (entry_code P number p.frame) in
      let code = map word_of (lines_code P number p.frame 0 p.lines) in
      let tables = map (λ line. 4 * line_place program l number line) (all_targets p.lines) in
      let left = procedure_rests l number (slice_get program.procedures number) in
      let begins = entry_is program l number p h ∙ ap (λ n. entry_place program l number + n) (sym (length-map (entry_code P number p.frame) word_of)) in
      let rest = back_of words (entry_place program l number) (line_place program l number 0) entry (code ++ tables) begins k in
      let framed = ap (λ n. map word_of (lines_code P number n 0 p.lines)) (same_frame number p h) in
      let long = ap length framed ∙ length-map (lines_code P number (frame_of program number).words 0 p.lines) word_of ∙ body_long number p h in
      record {
        entry = front_of words (entry_place program l number) entry (code ++ tables) k;
        lines = same_piece words (line_place program l number 0) code (map word_of (lines_code P number (frame_of program number).words 0 p.lines)) framed (front_of words (line_place program l number 0) code tables rest);
        tables =
            back_of words (line_place program l number 0) (body_place program l number + slice_index left 0) code tables
            (by (body_place program l number) (slice_index left 0) (length code) long) rest;
      }
    where
      by : (body first code : ℕ) → code ≡ first → body + first ≡ body + (first - first) + code
      by body first code e = omega (arith, e)

  -- procedures of a program, from a number on
  abbrev AreProcedures : (number : ℕ) → List LineProcedure → Type 0
  AreProcedures number ps = (j m : ℕ) (p : LineProcedure) → m ≡ number + j → slice_get ps j ≡ Some p → slice_get program.procedures m ≡ Some p

  all_procedures : AreProcedures 0 program.procedures
  all_procedures j m p e g = let at : m ≡ j = omega (arith, e) in ap (λ k. slice_get program.procedures k) at ∙ g

  procedures_long : (number : ℕ) (ps : List LineProcedure) → AreProcedures number ps → length (procedures_words P number ps) ≡ code_size l number ps
  procedures_long number [] h = refl
  procedures_long number (p ∷ ps) h =
      length-append (procedure_words P number p) (procedures_words P (number + 1) ps)
      ∙ ap (λ n. n + length (procedures_words P (number + 1) ps)) (procedure_long number p (h 0 number p (omega arith) refl))
      ∙ ap (λ n. procedure_size l number p + n) (procedures_long (number + 1) ps (λ j m q e g. h (suc j) m q (omega (arith, e)) g))

  procedure_at :
      (words : List ℕ) (at number : ℕ) (ps : List LineProcedure) (n m : ℕ) (p : LineProcedure) → AreProcedures number ps → m ≡ number + n → slice_get ps n ≡ Some p
      → IsIn words at (procedures_words P number ps) → IsIn words (at + code_size l number (take n ps)) (procedure_words P m p)
  procedure_at words at number [] n m p h e g k = absurd (cc g)
  procedure_at words at number (q ∷ qs) zero m p h e g k =
      let same : q ≡ p = cc g in
      let there : number ≡ m = omega (arith, e) in
      moved_to words at (at + 0) (procedure_words P m p) (omega arith)
      (subst (λ i. IsIn words at (procedure_words P i p)) there
      (subst (λ z. IsIn words at (procedure_words P number z)) same (front_of words at (procedure_words P number q) (procedures_words P (number + 1) qs) k)))
  procedure_at words at number (q ∷ qs) (suc n) m p h e g k =
      let long = procedure_long number q (h 0 number q (omega arith) refl) in
      let rest =
      back_of words at (at + procedure_size l number q) (procedure_words P number q) (procedures_words P (number + 1) qs) (ap (λ i. at + i) (sym long)) k in
      moved_to words (at + procedure_size l number q + code_size l (number + 1) (take n qs)) (at + (procedure_size l number q + code_size l (number + 1) (take n qs))) (procedure_words P m p) (omega arith)
      (procedure_at words (at + procedure_size l number q) (number + 1) qs n m p (λ j i r d f. h (suc j) i r (omega (arith, d)) f) (omega (arith, e)) g rest)

  table_entry : (number : ℕ) (ps : List LineProcedure) (n m : ℕ) (p : LineProcedure) → m ≡ number + n → slice_get ps n ≡ Some p
      → slice_get (entries_table P number ps) n ≡ Some (4 * entry_place program l m)
  table_entry number [] n m p e g = absurd (cc g)
  table_entry number (q ∷ qs) zero m p e g = let there : number ≡ m = omega (arith, e) in ap (λ i. Some (4 * entry_place program l i)) there
  table_entry number (q ∷ qs) (suc n) m p e g = table_entry (number + 1) qs n m p (omega (arith, e)) g

  table_long : (number : ℕ) (ps : List LineProcedure) → length (entries_table P number ps) ≡ length ps
  table_long number [] = refl
  table_long number (p ∷ ps) = ap suc (table_long (number + 1) ps)

seven_long :
    (a b c d e f g : List ℕ)
    → length (a ++ (b ++ (c ++ (d ++ (e ++ (f ++ g)))))) ≡ length a + length b + length c + length d + length e + length f + length g
seven_long a b c d e f g =
    omega (
      arith,
      length-append a (b ++ (c ++ (d ++ (e ++ (f ++ g))))),
      length-append b (c ++ (d ++ (e ++ (f ++ g)))),
      length-append c (d ++ (e ++ (f ++ g))),
      length-append d (e ++ (f ++ g)),
      length-append e (f ++ g),
      length-append f g,
    )

-- words that are words

abbrev pub AreSmall : List ℕ → Type 0
AreSmall xs = (i : ℕ) → slice_index xs i < 2 ^ 32

small_both : (xs ys : List ℕ) → AreSmall xs → AreSmall ys → AreSmall (xs ++ ys)
small_both [] ys h k i = k i
small_both (x ∷ xs) ys h k zero = h 0
small_both (x ∷ xs) ys h k (suc i) = small_both xs ys (λ j. h (suc j)) k i

zeros_small : (n : ℕ) → AreSmall (replicate n 0)
zeros_small zero i = omega arith
zeros_small (suc n) zero = omega arith
zeros_small (suc n) (suc i) = zeros_small n i

code_small : (code : List Instr) → AreInstrs code → AreSmall (map word_of code)
code_small [] h i = omega arith
code_small (x ∷ more) h zero = word_of-fits x h.0
code_small (x ∷ more) h (suc i) = code_small more h.1 i

get_laid : (xs ys : List ℕ) (i w : ℕ) → slice_get xs i ≡ Some w → slice_index (xs ++ ys) i ≡ w
get_laid [] ys i w h = absurd (cc h)
get_laid (x ∷ xs) ys zero w h = cc h
get_laid (x ∷ xs) ys (suc i) w h = get_laid xs ys i w h

-- the whole image
module _ (program : LineProgram) (l : Located) (entry : ℕ) where
  abbrev N : Located
  N = with_near program l

  abbrev L : Located
  L = laid_out program l

  abbrev words : List ℕ
  words = image program L entry

  -- what stands from each part on

  abbrev from_procedures : List ℕ
  from_procedures = procedures_words L 0 program.procedures

  abbrev from_full : List ℕ
  from_full = map word_of full_code ++ from_procedures

  abbrev from_end : List ℕ
  from_end = map word_of end_code ++ from_full

  abbrev from_start : List ℕ
  from_start = map word_of (start_code program L entry) ++ from_end

  abbrev from_table : List ℕ
  from_table = entries_table L 0 program.procedures ++ from_start

  abbrev from_arguments : List ℕ
  from_arguments = replicate l.argument_words 0 ++ from_table

  arguments_in : IsIn words (length program.laid) from_arguments
  arguments_in = back_of words 0 (length program.laid) program.laid from_arguments (omega arith) (whole_in words)

  table_in : IsIn words (length program.laid + l.argument_words) from_table
  table_in =
      back_of words (length program.laid) (length program.laid + l.argument_words) (replicate l.argument_words 0) from_table
      (ap (λ n. length program.laid + n) (sym (length-replicate l.argument_words 0))) arguments_in

  start_in : IsIn words (start_at program l) from_start
  start_in =
      back_of words (length program.laid + l.argument_words) (start_at program l) (entries_table L 0 program.procedures) from_start
      (ap (λ n. length program.laid + l.argument_words + n) (sym (table_long program N 0 program.procedures))) table_in

  end_in : IsIn words (start_at program l + 2) from_end
  end_in = back_of words (start_at program l) (start_at program l + 2) (map word_of (start_code program L entry)) from_end refl start_in

  full_in : IsIn words (start_at program l + 2 + 3) from_full
  full_in = back_of words (start_at program l + 2) (start_at program l + 2 + 3) (map word_of end_code) from_full refl end_in

  procedures_in : IsIn words (first_at program l) from_procedures
  procedures_in = back_of words (start_at program l + 2 + 3) (first_at program l) (map word_of full_code) from_procedures refl full_in

  pub words_long : length words ≡ L.code_to
  words_long =
      by (length program.laid) l.argument_words (length program.procedures) (length (replicate l.argument_words 0)) (length (entries_table L 0 program.procedures)) (length from_procedures)
      (code_size N 0 program.procedures) (length words) (length-replicate l.argument_words 0) (table_long program N 0 program.procedures)
      (procedures_long program N 0 program.procedures (all_procedures program N))
      (seven_long program.laid (replicate l.argument_words 0) (entries_table L 0 program.procedures) (map word_of (start_code program L entry)) (map word_of end_code) (map word_of full_code) from_procedures)
    where
      by : (laid a n r t p size all : ℕ) → r ≡ a → t ≡ n → p ≡ size → all ≡ laid + r + t + 2 + 3 + 6 + p → all ≡ laid + a + n + 2 + 3 + 6 + size
      by laid a n r t p size all e f g h = omega (arith, e, f, g, h)

  stands : (at : ℕ) (code : List Instr) → AreInstrs code → L.code_from ≤ at → IsIn words at (map word_of code) → Stands L words at code
  stands at code is from h =
      let longer = within words at (map word_of code) h in
      let as_long = length-map code word_of in
      let whole = words_long in
      record {
        from = from;
        to = by at (length code) (length (map word_of code)) (length words) L.code_to longer as_long whole;
        has = code_in words at code is h;
      }
    where
      by : (at n m all to : ℕ) → at + m ≤ all → m ≡ n → all ≡ to → at + n ≤ to
      by at n m all to a b c = omega (arith, a, b, c)

  names : (at position : ℕ) → L.code_from ≤ at → WordAt words at (4 * position) → Names L words at position
  names at position from h =
      let whole = words_long in
      record {
        from = from;
        to = by at (length words) L.code_to h.there whole;
        within = h.there;
        names = h.is;
      }
    where
      by : (at all to : ℕ) → at < all → all ≡ to → at < to
      by at all to a b = omega (arith, a, b)

  -- all code of procedures is behind the front

  entry_behind : (number : ℕ) → L.code_from ≤ entry_place program N number
  entry_behind number = by (length program.laid + l.argument_words) (length program.procedures) (code_size N 0 (take number program.procedures))
    where
      by : (from n size : ℕ) → from ≤ from + n + 2 + 3 + 6 + size
      by from n size = omega arith

  line_behind : (number line : ℕ) → L.code_from ≤ line_place program N number line
  line_behind number line =
      by L.code_from (entry_place program N number) (entry_size N number (slice_get program.procedures number))
      (slice_index (procedure_rests N number (slice_get program.procedures number)) 0 - slice_index (procedure_rests N number (slice_get program.procedures number)) line)
      (entry_behind number)
    where
      by : (from at size rest : ℕ) → from ≤ at → from ≤ at + size + rest
      by from at size rest h = omega (arith, h)

  start_is : AreInstrs (start_code program L entry)
  start_is = far_jump_is 1 (start_at program L) (L.entry_at entry) (omega arith)

  procedure_there_in : (number : ℕ) (p : LineProcedure) → slice_get program.procedures number ≡ Some p → ProcedureIn program N words number p
  procedure_there_in number p h =
      procedure_in program N words number p h
      (procedure_at program N words (first_at program l) 0 program.procedures number number p (all_procedures program N) (omega arith) h procedures_in)

  line_there : (number line : ℕ) (x : Line) (p : LineProcedure) → slice_get program.procedures number ≡ Some p → line_of program number line ≡ Some x → slice_get p.lines line ≡ Some x
  line_there number line x p h e = sym (ap (λ o. slice_get (lines_in o) line) h) ∙ e

  line_in : (number line : ℕ) (x : Line) → line_of program number line ≡ Some x → LineIn program N words number line x
  line_in number line x e =
      let p = procedure_there program number line x e in
      lines_are_in program N words number 0 p.0.lines line line x (of_procedure program N number p.0 p.1) (omega arith) (line_there number line x p.0 p.1 e)
      (procedure_there_in number p.0 p.1).lines

  module _ (Fact : (number line register : ℕ) → Place → Type 0) (placed : IsPlacedWell program L Fact) where
    back_from : (number line : ℕ) (x : Line) → line_of program number line ≡ Some x → L.code_from ≤ back_place program N number line
    back_from number line x e =
        by L.code_from (line_place program N number line) (length (line_code L number (frame_of program number).words line x)) (back_place program N number line)
        (line_behind number line) (back_is program N number line x e)
      where
        by : (from at n back : ℕ) → from ≤ at → back ≡ at + n → from ≤ back
        by from at n back h k = omega (arith, h, k)

    switch_names :
        (number line r : ℕ) (targets : List ℕ) (i to : ℕ) → line_of program number line ≡ Some (Switch r targets) → slice_get targets i ≡ Some to
        → Names L words (table_place program N number line + i) (line_place program N number to)
    switch_names number line r targets i to e g =
        let found = procedure_there program number line (Switch r targets) e in
        let p = found.0 in
        let h = found.1 in
        let left = procedure_rests N number (slice_get program.procedures number) in
        let before = length (all_targets (take line p.lines)) in
        let same = ap (λ o. length (all_targets (take line (lines_there o)))) h in
        let there = table_there p.lines line r targets i to (before + i) (line_there number line (Switch r targets) p h e) g refl in
        names (table_place program N number line + i) (line_place program N number to)
        (by L.code_from (entry_place program N number) (entry_size N number (slice_get program.procedures number)) (slice_index left 0) (length (all_targets (take line (lines_there (slice_get program.procedures number))))) i
        (entry_behind number))
        (word_at words (body_place program N number + slice_index left 0) (before + i) (table_place program N number line + i) (4 * line_place program N number to)
        (map (λ n. 4 * line_place program N number n) (all_targets p.lines))
        (at_table (body_place program N number + slice_index left 0) (length (all_targets (take line (lines_there (slice_get program.procedures number))))) before i same)
        (get_mapped (λ n. 4 * line_place program N number n) (all_targets p.lines) (before + i) to there) (procedure_there_in number p h).tables)
      where
        by : (from at size rest n i : ℕ) → from ≤ at → from ≤ at + size + rest + n + i
        by from at size rest n i h = omega (arith, h)

        at_table : (at n before i : ℕ) → n ≡ before → at + n + i ≡ at + (before + i)
        at_table at n before i e = omega (arith, e)

    table_names : (number : ℕ) (p : LineProcedure) → slice_get program.procedures number ≡ Some p → Names L words (L.procedures_at + number) (entry_place program N number)
    table_names number p h =
        names (L.procedures_at + number) (entry_place program N number) (omega arith)
        (word_at words L.procedures_at number (L.procedures_at + number) (4 * entry_place program N number) (entries_table L 0 program.procedures) refl
        (table_entry program N 0 program.procedures number number p (omega arith) h) (front_of words L.procedures_at (entries_table L 0 program.procedures) from_start table_in))

    pub program_in : HasProgram program L words
    program_in = record {
      lines = λ number line x e.
          stands (line_place program N number line) (line_code L number (frame_of program number).words line x)
          (instructions.line_is program L Fact placed number line x e (placed.lines number line x e)) (line_behind number line) (line_in number line x e).code;
      backs = λ number line x e.
          stands (back_place program N number line) (behind_code L number line x) (instructions.behind_is program L Fact placed number line x) (back_from number line x e)
          (line_in number line x e).behind;
      switches = switch_names;
      entries = λ number p h.
          stands (entry_place program N number) (entry_code L number p.frame) (instructions.entry_is L Fact number p.frame p.parameters (placed.entries number p h)) (entry_behind number)
          (procedure_there_in number p h).entry;
      table = table_names;
      full = stands (start_at program l + 2 + 3) full_code full_is (omega arith) (front_of words (start_at program l + 2 + 3) (map word_of full_code) from_procedures full_in);
      end = stands (start_at program l + 2) end_code end_is (omega arith) (front_of words (start_at program l + 2) (map word_of end_code) from_full end_in);
    }

    -- all are words

    lines_are : (number line : ℕ) (xs : List Line) → AreLines program N number line xs → AreInstrs (lines_code L number (frame_of program number).words line xs)
    lines_are number line [] h = tt
    lines_are number line (x ∷ xs) h =
        let there = first_there program N number line x xs h in
        both_are (line_code L number (frame_of program number).words line x) (behind_code L number line x ++ lines_code L number (frame_of program number).words (line + 1) xs)
        (instructions.line_is program L Fact placed number line x there (placed.lines number line x there))
        (both_are (behind_code L number line x) (lines_code L number (frame_of program number).words (line + 1) xs) (instructions.behind_is program L Fact placed number line x)
        (lines_are number (line + 1) xs (rest_lines program N number line x xs h)))

    module _ (low : L.code_to < 2 ^ 24) where
      address_small : (at : ℕ) → at ≤ L.code_to → 4 * at < 2 ^ 32
      address_small at h = omega (arith, h, low)

      targets_small : (number : ℕ) (to : List ℕ) → AreSmall (map (λ line. 4 * line_place program N number line) to)
      targets_small number [] i = omega arith
      targets_small number (t ∷ to) zero = address_small (line_place program N number t) (line_within program N number t)
      targets_small number (t ∷ to) (suc i) = targets_small number to i

      procedures_small : (number : ℕ) (ps : List LineProcedure) → AreProcedures program N number ps → AreSmall (procedures_words L number ps)
      procedures_small number [] h = λ i. omega arith
      procedures_small number (p ∷ ps) h =
          let there = h 0 number p (omega arith) refl in
          let framed = ap (λ n. lines_code L number n 0 p.lines) (same_frame program N number p there) in
          small_both (procedure_words L number p) (procedures_words L (number + 1) ps)
          (small_both (map word_of (entry_code L number p.frame)) (map word_of (lines_code L number p.frame 0 p.lines) ++ map (λ line. 4 * line_place program N number line) (all_targets p.lines))
          (code_small (entry_code L number p.frame) (instructions.entry_is L Fact number p.frame p.parameters (placed.entries number p there)))
          (small_both (map word_of (lines_code L number p.frame 0 p.lines)) (map (λ line. 4 * line_place program N number line) (all_targets p.lines))
          (code_small (lines_code L number p.frame 0 p.lines) (subst AreInstrs (sym framed) (lines_are number 0 p.lines (of_procedure program N number p there))))
          (targets_small number (all_targets p.lines))))
          (procedures_small (number + 1) ps (λ j m q e g. h (suc j) m q (omega (arith, e)) g))

      entry_low : (number : ℕ) → entry_place program N number ≤ L.code_to
      entry_low number =
          by (entry_place program N number) (entry_size N number (slice_get program.procedures number)) _ L.code_to (line_within program N number 0)
        where
          by : (at size rest to : ℕ) → at + size + rest ≤ to → at ≤ to
          by at size rest to h = omega (arith, h)

      table_small : (number : ℕ) (ps : List LineProcedure) → AreSmall (entries_table L number ps)
      table_small number [] i = omega arith
      table_small number (p ∷ ps) zero = address_small (entry_place program N number) (entry_low number)
      table_small number (p ∷ ps) (suc i) = table_small (number + 1) ps i

      pub all_small : AreSmall program.laid → AreSmall words
      all_small laid =
          small_both program.laid from_arguments laid
          (small_both (replicate l.argument_words 0) from_table (zeros_small l.argument_words)
          (small_both (entries_table L 0 program.procedures) from_start (table_small 0 program.procedures)
          (small_both (map word_of (start_code program L entry)) from_end (code_small (start_code program L entry) start_is)
          (small_both (map word_of end_code) from_full (code_small end_code end_is)
          (small_both (map word_of full_code) from_procedures (code_small full_code full_is) (procedures_small 0 program.procedures (all_procedures program N)))))))

pub law_of_words : LawOfWords
law_of_words program l known entry placed = record {
  program_there = program_in program l entry (Known known) placed;
  laid = λ i w e. get_laid program.laid (from_arguments program l entry) i w e;
  start =
      stands program l entry (start_at program l) (start_code program (laid_out program l) entry) (start_is program l entry) (omega arith)
      (front_of (words program l entry) (start_at program l) (map word_of (start_code program (laid_out program l) entry)) (from_end program l entry) (start_in program l entry));
  long = words_long program l entry;
  small = λ laid low. all_small program l entry (Known known) placed low laid;
}
