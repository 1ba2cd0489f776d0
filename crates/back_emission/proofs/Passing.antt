-- Arguments are passed: each comes into its register, or into its word of the image.
use Rattle.std.proofs.Common.{inl, inr, ◌≡◌, ◌≢◌, ℕ, zero, suc, ◌+◌, ◌*◌, ◌^◌, ◌<◌, ◌≤◌, Bool, true, false, List, [], ◌∷◌, ◌++◌, length, refl, sym, ap, subst, ◌∙◌, arith, eq-eqb, length-append}
use Rattle.std.specs.Prelude.{◌⊎◌, not, slice_index, slice_set, if◌then◌else◌, ◌==◌, nat_lt}
use Rattle.std.proofs.lemmas.Bool.Decides.{nat_tests}
use Rattle.std.proofs.lemmas.List.{get_or-set_same, get_or-set_other, length-set}
use Rattle.base.specs.Arithmetic.{sum32}
use Rattle.rv_encode.specs.declared.instruction.Instr.{Instr}
use Rattle.rv_encode.specs.declared.instruction.Instr.TheVariants.{Lui, Lw, Sw}
use Rattle.rv_machine.specs.Memory.{bytes_of, number_at, stored_at}
use Rattle.rv_machine.specs.Words.{word_read, word_stored}
use Rattle.rv_machine.specs.Arithmetic.{sign_extended}
use Rattle.rv_machine.specs.Step.{next, execute, load, store}
use Rattle.mid_lines.proofs.Conjunctions.{front_true, back_true}
use Rattle.back_places.specs.declared.place.Place.{Place}
use Rattle.back_places.specs.declared.place.Place.TheVariants.{InRegister, InSlot, AsConstant}
use Rattle.back_places.specs.Places.{Located, Way, from_stack, past_lent, no_way, reachable, argument_register, value_registers}
use Rattle.back_places.specs.Operands.{high_part, low_part, at_word, load_into, read_in, read_code}
use Rattle.back_places.specs.Passing.{is_other, are_others, are_in_order, argument_word_code, arguments_code, stored_code, fetched_code, pass_code}
use Rattle.back_places.specs.Facts.{IsPlace}
use Rattle.back_places.specs.Relation.{Stands, IsAt, ArePassed}
use Rattle.back_places.specs.StepLaw.{Comes}
use Rattle.back_emission.specs.Moments.{state_at, Beside, later, moment, AreSmall, Ready, Prepared, LeadsTo, Frame}
use Rattle.back_emission.proofs.Coming.{has_front, has_back, next_place, and_on, one_step, step_at, sets_none, sets_on}
use Rattle.back_emission.proofs.Parts.{parts_sum}
use Rattle.back_emission.proofs.Operands.{set_small, prepared_one, read, loaded}
use Rattle.back_emission.proofs.Private.{has_code_kept}
use Rattle.back_emission.proofs.Moving.{read_not_seven}

-- the fourteen registers: where each stands, and that they are others than those with a use of their own
place_in : (r : ℕ) → List ℕ → ℕ
place_in r [] = 0
place_in r (x ∷ xs) = if x == r then 0 else suc (place_in r xs)

place_is : (i : ℕ) → i < 14 → place_in (argument_register i) value_registers ≡ i
unfolding place_in
place_is zero h = refl
place_is (suc zero) h = refl
place_is (suc (suc zero)) h = refl
place_is (suc (suc (suc zero))) h = refl
place_is (suc (suc (suc (suc zero)))) h = refl
place_is (suc (suc (suc (suc (suc zero))))) h = refl
place_is (suc (suc (suc (suc (suc (suc zero)))))) h = refl
place_is (suc (suc (suc (suc (suc (suc (suc zero))))))) h = refl
place_is (suc (suc (suc (suc (suc (suc (suc (suc zero)))))))) h = refl
place_is (suc (suc (suc (suc (suc (suc (suc (suc (suc zero))))))))) h = refl
place_is (suc (suc (suc (suc (suc (suc (suc (suc (suc (suc zero)))))))))) h = refl
place_is (suc (suc (suc (suc (suc (suc (suc (suc (suc (suc (suc zero))))))))))) h = refl
place_is (suc (suc (suc (suc (suc (suc (suc (suc (suc (suc (suc (suc zero)))))))))))) h = refl
place_is (suc (suc (suc (suc (suc (suc (suc (suc (suc (suc (suc (suc (suc zero))))))))))))) h = refl
place_is (suc (suc (suc (suc (suc (suc (suc (suc (suc (suc (suc (suc (suc (suc i)))))))))))))) h = absurd (omega (arith, h))

pub is_value_register : (i : ℕ) → i < 14 → (7 < argument_register i) × (argument_register i < 32)
is_value_register zero h = (omega arith, omega arith)
is_value_register (suc zero) h = (omega arith, omega arith)
is_value_register (suc (suc zero)) h = (omega arith, omega arith)
is_value_register (suc (suc (suc zero))) h = (omega arith, omega arith)
is_value_register (suc (suc (suc (suc zero)))) h = (omega arith, omega arith)
is_value_register (suc (suc (suc (suc (suc zero))))) h = (omega arith, omega arith)
is_value_register (suc (suc (suc (suc (suc (suc zero)))))) h = (omega arith, omega arith)
is_value_register (suc (suc (suc (suc (suc (suc (suc zero))))))) h = (omega arith, omega arith)
is_value_register (suc (suc (suc (suc (suc (suc (suc (suc zero)))))))) h = (omega arith, omega arith)
is_value_register (suc (suc (suc (suc (suc (suc (suc (suc (suc zero))))))))) h = (omega arith, omega arith)
is_value_register (suc (suc (suc (suc (suc (suc (suc (suc (suc (suc zero)))))))))) h = (omega arith, omega arith)
is_value_register (suc (suc (suc (suc (suc (suc (suc (suc (suc (suc (suc zero))))))))))) h = (omega arith, omega arith)
is_value_register (suc (suc (suc (suc (suc (suc (suc (suc (suc (suc (suc (suc zero)))))))))))) h = (omega arith, omega arith)
is_value_register (suc (suc (suc (suc (suc (suc (suc (suc (suc (suc (suc (suc (suc zero))))))))))))) h = (omega arith, omega arith)
is_value_register (suc (suc (suc (suc (suc (suc (suc (suc (suc (suc (suc (suc (suc (suc i)))))))))))))) h = absurd (omega (arith, h))

others_apart : (i j : ℕ) → i < 14 → j < 14 → i ≢ j → argument_register i ≢ argument_register j
others_apart i j h k ne e = ne (sym (place_is i h) ∙ ap (λ r. place_in r value_registers) e ∙ place_is j k)

-- words are at places within reach
abbrev pub AreAt : (registers words : List ℕ) (base reach : ℕ) → List Place → List ℕ → Type 0
AreAt registers words base reach [] [] = Unit {0}
AreAt registers words base reach [] (w ∷ ws) = ⊥
AreAt registers words base reach (p ∷ ps) [] = ⊥
AreAt registers words base reach (p ∷ ps) (w ∷ ws) = IsPlace reach p × IsAt registers words base p w × (w < 2 ^ 32) × AreAt registers words base reach ps ws

-- Code that changes registers, and words of arguments from a number on.
pub record Does (l : Located) (i : ℕ) (words registers : List ℕ) (code : List Instr) : Type 0 where
  pub registers' : List ℕ
  pub words' : List ℕ
  pub by :
      (at : ℕ) (o : Beside) → Stands l words at code → at + length code < 2 ^ 25
      → Comes (length code) (moment (state_at at registers words) o) (moment (state_at (at + length code) registers' words') (later (length code) o))
  pub ready : Ready registers'
  pub bounded : AreSmall registers'
  pub small : AreSmall words'
  pub long : length words' ≡ length words
  pub kept : (j : ℕ) → (j < l.arguments_at + i) ⊎ (l.arguments_at + l.argument_words ≤ j) → slice_index words' j ≡ slice_index words j
  pub others : (q : ℕ) → q ≢ 5 → q ≢ 7 → ((j : ℕ) → i ≤ j → j < 14 → q ≢ argument_register j) → slice_index registers' q ≡ slice_index registers q

abbrev pub does_none : (l : Located) (i : ℕ) (words registers : List ℕ) → AreSmall words → Ready registers → AreSmall registers → Does l i words registers []
does_none l i words registers small ready bounded = record {
  registers' = registers;
  words' = words;
  by = λ at o stands room. (sets_none words registers).by at o tt room;
  ready = ready;
  bounded = bounded;
  small = small;
  long = refl;
  kept = λ j h. refl;
  others = λ q n5 n7 h. refl;
}

-- code that sets one register: a scratch register, or that of an argument
abbrev pub does_set :
    (l : Located) (i : ℕ) (words registers : List ℕ) (code : List Instr) (to w s : ℕ) → AreSmall words → AreSmall registers
    → (s ≡ 5) ⊎ ((i < 14) × (s ≡ argument_register i)) → Prepared words registers code to w s → Does l i words registers code
does_set l i words registers code to w s small bounded is p = record {
  registers' = p.registers';
  words' = words;
  by = λ at o stands room. p.sets.by at o stands.has room;
  ready = p.ready;
  bounded = p.bounded bounded;
  small = small;
  long = refl;
  kept = λ j h. refl;
  others = λ q n5 n7 h. p.others q (λ e. elim is [ inl k ↦ n5 (e ∙ k) | inr k ↦ h i (omega arith) k.0 (e ∙ k.1) ]) n7;
}

-- one after the other, from a number on that is no lower
abbrev pub does_on :
    (l : Located) (i j : ℕ) (words registers : List ℕ) (a b : List Instr) → l.arguments_at + l.argument_words ≤ l.code_from → i ≤ j
    → (f : Does l i words registers a) → Does l j f.words' f.registers' b → Does l i words registers (a ++ b)
does_on l i j words registers a b apart le f g =
    let len : length (a ++ b) ≡ length a + length b = length-append a b in
    record {
      registers' = g.registers';
      words' = g.words';
      by = λ at o stands room.
          let first_stands : Stands l words at a = record { from = stands.from; to = omega (arith, stands.to, len); has = has_front words at a b stands.has } in
          let back = has_back words at a b stands.has in
          let second_stands : Stands l f.words' (at + length a) b = record {
            from = omega (arith, stands.from);
            to = omega (arith, stands.to, len);
            has = has_code_kept words f.words' b (at + length a) f.long (λ k low high. f.kept k (inr (omega (arith, low, stands.from, apart)))) back;
          } in
          let one = f.by at o first_stands (omega (arith, len, room)) in
          let two = g.by (at + length a) (later (length a) o) second_stands (omega (arith, len, room)) in
          let e : at + length a + length b ≡ at + length (a ++ b) = omega (arith, len) in
          let x : o.executed + length a + length b ≡ o.executed + length (a ++ b) = omega (arith, len) in
          subst (λ k. Comes k (moment (state_at at registers words) o) (moment (state_at (at + length (a ++ b)) g.registers' g.words') (later (length (a ++ b)) o))) (sym len)
          (subst (λ k. Comes (length a + length b) (moment (state_at at registers words) o) (moment (state_at k g.registers' g.words') (later (length (a ++ b)) o))) e
          (subst (λ k. Comes (length a + length b) (moment (state_at at registers words) o) (moment (state_at (at + length a + length b) g.registers' g.words') (record o { executed = k }))) x
          (and_on one two)));
      ready = g.ready;
      bounded = g.bounded;
      small = g.small;
      long = g.long ∙ f.long;
      kept = λ k h. g.kept k (elim h [ inl u ↦ inl (omega (arith, u, le)) | inr u ↦ inr u ]) ∙ f.kept k h;
      others = λ q n5 n7 h. g.others q n5 n7 (λ k low high. h k (omega (arith, low, le)) high) ∙ f.others q n5 n7 h;
    }

-- a register is stored into the word of an argument
stores_word :
    (l : Located) (i r w : ℕ) (words registers : List ℕ) → AreSmall words → Ready registers → AreSmall registers → slice_index registers r ≡ w → r ≢ 7 → w < 2 ^ 32
    → i < l.argument_words → l.arguments_at + l.argument_words ≤ length words → length words ≤ 2 ^ 24
    → (d : Does l i words registers (at_word (l.arguments_at + i) (Sw r))) × (d.words' ≡ slice_set words (l.arguments_at + i) w)
    × ((q : ℕ) → q ≢ 7 → slice_index d.registers' q ≡ slice_index registers q)
stores_word l i r w words registers small ready bounded is seven fits within inside low =
    let k = l.arguments_at + i in
    let hi = high_part (4 * k) in
    let lo = low_part (4 * k) in
    let one = prepared_one words registers (Lui 7 hi) 7 (hi * 4096) small ready (omega arith) (omega arith) (omega arith) (λ n. refl) in
    let parts = parts_sum (4 * k) (omega (arith, within, inside, low)) in
    let address : sum32 (slice_index one.registers' 7) (sign_extended 12 lo) ≡ 4 * k = ap (λ x. sum32 x (sign_extended 12 lo)) one.holds ∙ parts in
    let value : slice_index one.registers' r ≡ w = one.others r seven seven ∙ is in
    let words1 = slice_set words k w in (
      record {
        registers' = one.registers';
        words' = words1;
        by = λ at o stands room.
            let here = state_at (at + 1) one.registers' words in
            let p : sum32 (4 * (at + 1)) 4 ≡ 4 * (at + 1 + 1) = next_place (at + 1) (omega (arith, room)) in
            let stored : execute (Sw r 7 lo) here ≡ next (state_at (at + 1 + 1) one.registers' words1) =
            ap (λ y. store (stored_at 4 y (slice_index one.registers' r) (bytes_of words)) here) address
            ∙ ap (λ y. store (stored_at 4 (4 * k) y (bytes_of words)) here) value
            ∙ ap (λ y. store y here) (word_stored words k w (omega (arith, within, inside)))
            ∙ ap (λ y. next (record { pc = y; registers = one.registers'; memory = bytes_of words1 })) p in
            let first_step = one.sets.by at o (has_front words at (Lui 7 hi ∷ []) (Sw r 7 lo ∷ []) stands.has) (omega (arith, room)) in
            let second = one_step here (state_at (at + 1 + 1) one.registers' words1) (later 1 o) (step_at (at + 1) one.registers' words (Sw r 7 lo) [] stands.has.3 (small (at + 1)) ∙ stored) in
            let e : at + 1 + 1 ≡ at + 2 = omega arith in
            let x : o.executed + 1 + 1 ≡ o.executed + 2 = omega arith in
            subst (λ n. Comes 2 (moment (state_at at registers words) o) (moment (state_at n one.registers' words1) (later 2 o))) e
            (subst (λ n. Comes 2 (moment (state_at at registers words) o) (moment (state_at (at + 1 + 1) one.registers' words1) (record o { executed = n }))) x
            (and_on first_step second));
        ready = one.ready;
        bounded = one.bounded bounded;
        small = λ j. set_small words k w j small fits;
        long = length-set words k w;
        kept = λ j h. get_or-set_other words k j w 0 (λ e. elim h [ inl u ↦ omega (arith, u, e) | inr u ↦ omega (arith, u, e, within) ]);
        others = λ q n5 n7 h. one.others q n7 n7;
      },
      refl,
      λ q n7. one.others q n7 n7,
    )

-- what is in the frame, or in no scratch register, is where it was
still_at :
    (registers registers' words words' : List ℕ) (base reach : ℕ) (p : Place) (w : ℕ) → ((q : ℕ) → IsPlace reach (InRegister q) → InRegister q ≡ p → slice_index registers' q ≡ slice_index registers q)
    → ((j : ℕ) → base ≤ j → slice_index words' j ≡ slice_index words j) → IsPlace reach p → IsAt registers words base p w → IsAt registers' words' base p w
still_at registers registers' words words' base reach (InRegister q) w others kept ok h = others q ok refl ∙ h
still_at registers registers' words words' base reach (InSlot k) w others kept ok h = kept (base + k) (omega arith) ∙ h
still_at registers registers' words words' base reach (AsConstant c) w others kept ok h = h

-- the frame, where words above those of arguments are as before
frame_passed :
    (registers registers' words words' : List ℕ) (way : Way) (base frame end : ℕ) → slice_index registers' 2 ≡ slice_index registers 2 → 4 * end ≤ slice_index registers 2
    → ((j : ℕ) → end ≤ j → slice_index words' j ≡ slice_index words j) → length words' ≡ length words
    → Frame registers words way base frame → Frame registers' words' way base frame
frame_passed registers registers' words words' way base frame end e above kept long f = record {
  leads = leads way f.leads;
  inside = omega (arith, f.inside, long);
  memory_small = omega (arith, f.memory_small, long);
}
  where
    leads : (way : Way) → LeadsTo registers words way base → LeadsTo registers' words' way base
    leads (from_stack depth) h = ap (λ x. x + 4 * depth) e ∙ h
    leads (past_lent depth) h =
        (h.0, e ∙ h.1, omega (arith, h.2, long), ap (λ x. x + 4 * depth) (kept (h.0 + 1) (omega (arith, above, h.1))) ∙ h.3)
    leads no_way h = tt

-- what is known of arguments and of the machine before they are passed
pub record Before (l : Located) (words registers : List ℕ) (way : Way) (base frame : ℕ) : Type 0 where
  pub small : AreSmall words
  pub ready : Ready registers
  pub bounded : AreSmall registers
  pub frame_is : Frame registers words way base frame
  pub stack : 4 * (l.arguments_at + l.argument_words) ≤ slice_index registers 2
  pub above : l.arguments_at + l.argument_words ≤ base
  pub inside : l.arguments_at + l.argument_words ≤ length words
  pub apart : l.arguments_at + l.argument_words ≤ l.code_from

after_one :
    (l : Located) (i : ℕ) (words registers : List ℕ) (way : Way) (base frame : ℕ) (code : List Instr) → Before l words registers way base frame
    → (d : Does l i words registers code) → Before l d.words' d.registers' way base frame
after_one l i words registers way base frame code b d =
    let sp : slice_index d.registers' 2 ≡ slice_index registers 2 =
    d.others 2 (λ e. omega (arith, e)) (λ e. omega (arith, e)) (λ j from to e. let is = is_value_register j to in omega (arith, is.0, e)) in
    record {
      small = d.small;
      ready = d.ready;
      bounded = d.bounded;
      frame_is = frame_passed registers d.registers' words d.words' way base frame (l.arguments_at + l.argument_words) sp b.stack (λ j h. d.kept j (inr h)) d.long b.frame_is;
      stack = omega (arith, b.stack, sp);
      above = b.above;
      inside = omega (arith, b.inside, d.long);
      apart = b.apart;
    }

-- the word of an argument into its word of the image
word_passes :
    (l : Located) (i w : ℕ) (p : Place) (words registers : List ℕ) (way : Way) (base frame : ℕ) → Before l words registers way base frame → i < l.argument_words
    → IsPlace (reachable way frame) p → IsAt registers words base p w → w < 2 ^ 32
    → (d : Does l i words registers (argument_word_code l.arguments_at way i p)) × (slice_index d.words' (l.arguments_at + i) ≡ w)
    × ((q : ℕ) → q ≢ 5 → q ≢ 7 → slice_index d.registers' q ≡ slice_index registers q)
word_passes l i w p words registers way base frame b within ok is_at fits =
    let one = read words registers way base frame 5 p w b.small b.ready b.frame_is ok (omega arith) (omega arith) is_at in
    let f = does_set l i words registers (read_code way 5 p) (read_in 5 p) w 5 b.small b.bounded (inl refl) one in
    let s = stores_word l i (read_in 5 p) w words one.registers' b.small one.ready (one.bounded b.bounded) one.holds (read_not_seven _ p ok) fits within b.inside b.frame_is.memory_small in
    passed_on f s.0 (omega (arith, within, b.inside)) s.1 (λ q n5 n7. s.2 q n7 ∙ one.others q n5 n7)
  where
    passed_on : (f : Does l i words registers (read_code way 5 p)) → (g : Does l i f.words' f.registers' (at_word (l.arguments_at + i) (Sw (read_in 5 p))))
        → l.arguments_at + i < length f.words' → g.words' ≡ slice_set f.words' (l.arguments_at + i) w
        → ((q : ℕ) → q ≢ 5 → q ≢ 7 → slice_index g.registers' q ≡ slice_index registers q)
        → (d : Does l i words registers (argument_word_code l.arguments_at way i p)) × (slice_index d.words' (l.arguments_at + i) ≡ w)
        × ((q : ℕ) → q ≢ 5 → q ≢ 7 → slice_index d.registers' q ≡ slice_index registers q)
    passed_on f g inside e others = (
      does_on l i i words registers (read_code way 5 p) (at_word (l.arguments_at + i) (Sw (read_in 5 p))) b.apart (omega arith) f g,
      ap (λ ws. slice_index ws (l.arguments_at + i)) e ∙ get_or-set_same f.words' (l.arguments_at + i) w 0 inside,
      others,
    )

-- places are where they were after an argument came into its register, and after one came into its word
other_than : (q r : ℕ) → not (q == r) ≡ true → q ≢ r
other_than q r h e = absurd (cc (h, eq-eqb q r e))

at_still_register :
    (registers registers' words : List ℕ) (base reach r : ℕ) (ps : List Place) (ws : List ℕ) → are_others r ps ≡ true
    → ((q : ℕ) → q ≢ r → q ≢ 7 → slice_index registers' q ≡ slice_index registers q) → AreAt registers words base reach ps ws → AreAt registers' words base reach ps ws
at_still_register registers registers' words base reach r [] [] h others k = tt
at_still_register registers registers' words base reach r [] (w ∷ ws) h others k = k
at_still_register registers registers' words base reach r (p ∷ ps) [] h others k = k
at_still_register registers registers' words base reach r (p ∷ ps) (w ∷ ws) h others k =
    (k.0, one p (front_true (is_other r p) (are_others r ps) h) k.0 k.1, k.2, at_still_register registers registers' words base reach r ps ws (back_true (is_other r p) (are_others r ps) h) others k.3)
  where
    one : (p : Place) → is_other r p ≡ true → IsPlace reach p → IsAt registers words base p w → IsAt registers' words base p w
    one (InRegister q) o ok at = others q (other_than q r o) (λ e. omega (arith, ok.0, e)) ∙ at
    one (InSlot j) o ok at = at
    one (AsConstant c) o ok at = at

at_still_word :
    (registers registers' words words' : List ℕ) (base reach end : ℕ) (ps : List Place) (ws : List ℕ) → end ≤ base
    → ((q : ℕ) → q ≢ 5 → q ≢ 7 → slice_index registers' q ≡ slice_index registers q) → ((j : ℕ) → end ≤ j → slice_index words' j ≡ slice_index words j)
    → AreAt registers words base reach ps ws → AreAt registers' words' base reach ps ws
at_still_word registers registers' words words' base reach end [] [] above others kept k = tt
at_still_word registers registers' words words' base reach end [] (w ∷ ws) above others kept k = k
at_still_word registers registers' words words' base reach end (p ∷ ps) [] above others kept k = k
at_still_word registers registers' words words' base reach end (p ∷ ps) (w ∷ ws) above others kept k =
    (k.0, one p k.0 k.1, k.2, at_still_word registers registers' words words' base reach end ps ws above others kept k.3)
  where
    one : (p : Place) → IsPlace reach p → IsAt registers words base p w → IsAt registers' words' base p w
    one (InRegister q) ok at = others q (λ e. omega (arith, ok.0, e)) (λ e. omega (arith, ok.0, e)) ∙ at
    one (InSlot j) ok at = kept (base + j) (omega (arith, above)) ∙ at
    one (AsConstant c) ok at = at

-- places are where they were where no register of values has changed
pub at_still_low :
    (registers registers' words : List ℕ) (base reach : ℕ) (ps : List Place) (ws : List ℕ) → ((q : ℕ) → 7 < q → slice_index registers' q ≡ slice_index registers q)
    → AreAt registers words base reach ps ws → AreAt registers' words base reach ps ws
at_still_low registers registers' words base reach [] [] others k = tt
at_still_low registers registers' words base reach [] (w ∷ ws) others k = k
at_still_low registers registers' words base reach (p ∷ ps) [] others k = k
at_still_low registers registers' words base reach (p ∷ ps) (w ∷ ws) others k =
    (k.0, one p k.0 k.1, k.2, at_still_low registers registers' words base reach ps ws others k.3)
  where
    one : (p : Place) → IsPlace reach p → IsAt registers words base p w → IsAt registers' words base p w
    one (InRegister q) ok at = others q ok.0 ∙ at
    one (InSlot j) ok at = at
    one (AsConstant c) ok at = at

module _ (l : Located) (way : Way) (base frame : ℕ) where
  -- in order, each right into its place
  pub passes_in_order :
      (i : ℕ) (ps : List Place) (ws words registers : List ℕ) → Before l words registers way base frame → AreAt registers words base (reachable way frame) ps ws
      → are_in_order i ps ≡ true → i + length ps ≤ l.argument_words
      → (d : Does l i words registers (arguments_code l.arguments_at way i ps)) × ArePassed l d.registers' d.words' i ws
  passes_in_order i [] [] words registers b at order few = (does_none l i words registers b.small b.ready b.bounded, tt)
  passes_in_order i [] (w ∷ ws) words registers b at order few = absurd at
  passes_in_order i (p ∷ ps) [] words registers b at order few = absurd at
  passes_in_order i (p ∷ ps) (w ∷ ws) words registers b at order few =
      by (λ words' registers' b' at'. passes_in_order (i + 1) ps ws words' registers' b' at' (back_true (are_others (argument_register i) ps) (are_in_order (i + 1) ps) order) (omega (arith, few)))
      (nat_lt i 14) refl
    where
      others_first : are_others (argument_register i) ps ≡ true
      others_first = front_true (are_others (argument_register i) ps) (are_in_order (i + 1) ps) order

      by : ((words' registers' : List ℕ) → Before l words' registers' way base frame → AreAt registers' words' base (reachable way frame) ps ws
          → (d : Does l (i + 1) words' registers' (arguments_code l.arguments_at way (i + 1) ps)) × ArePassed l d.registers' d.words' (i + 1) ws)
          → (t : Bool) → nat_lt i 14 ≡ t
          → (d : Does l i words registers ((if t then load_into way (argument_register i) p else argument_word_code l.arguments_at way i p) ++ arguments_code l.arguments_at way (i + 1) ps))
          × (((if t then slice_index d.registers' (argument_register i) else slice_index d.words' (l.arguments_at + i)) ≡ w) × ArePassed l d.registers' d.words' (i + 1) ws)
      by deeper true e =
          let within : i < 14 = grind (arith, nat_tests, e) in
          let is = is_value_register i within in
          let one = loaded words registers way base frame (argument_register i) p w b.small b.ready at.2 b.frame_is at.0 (omega (arith, is.0)) is.1 (λ k. omega (arith, is.0, k)) at.1 in
          let f = does_set l i words registers (load_into way (argument_register i) p) (argument_register i) w (argument_register i) b.small b.bounded (inr (within, refl)) one in
          let rest = deeper words one.registers' (after_one l i words registers way base frame _ b f)
          (at_still_register registers one.registers' words base (reachable way frame) (argument_register i) ps ws others_first one.others at.3) in
          let g = rest.0 in (
            does_on l i (i + 1) words registers (load_into way (argument_register i) p) (arguments_code l.arguments_at way (i + 1) ps) b.apart (omega arith) f g,
            (g.others (argument_register i) (λ k. omega (arith, is.0, k)) (λ k. omega (arith, is.0, k)) (λ j from to. others_apart i j within to (λ k. omega (arith, from, k))) ∙ one.holds, rest.1),
          )
      by deeper false e =
          let within : i < l.argument_words = omega (arith, few) in
          let one = word_passes l i w p words registers way base frame b within at.0 at.1 at.2 in
          let f = one.0 in
          let rest = deeper f.words' f.registers' (after_one l i words registers way base frame _ b f)
          (at_still_word registers f.registers' words f.words' base (reachable way frame) (l.arguments_at + l.argument_words) ps ws b.above one.2 (λ j h. f.kept j (inr h)) at.3) in
          let g = rest.0 in (
            does_on l i (i + 1) words registers (argument_word_code l.arguments_at way i p) (arguments_code l.arguments_at way (i + 1) ps) b.apart (omega arith) f g,
            (g.kept (l.arguments_at + i) (inl (omega arith)) ∙ one.1, rest.1),
          )

  -- all into words of the image
  abbrev AreStored : (words : List ℕ) (i : ℕ) → List ℕ → Type 0
  AreStored words i [] = Unit {0}
  AreStored words i (w ∷ ws) = (slice_index words (l.arguments_at + i) ≡ w) × AreStored words (i + 1) ws

  stores_all :
      (i : ℕ) (ps : List Place) (ws words registers : List ℕ) → Before l words registers way base frame → AreAt registers words base (reachable way frame) ps ws
      → i + length ps ≤ l.argument_words
      → (d : Does l i words registers (stored_code l.arguments_at way i ps)) × AreStored d.words' i ws
  stores_all i [] [] words registers b at few = (does_none l i words registers b.small b.ready b.bounded, tt)
  stores_all i [] (w ∷ ws) words registers b at few = absurd at
  stores_all i (p ∷ ps) [] words registers b at few = absurd at
  stores_all i (p ∷ ps) (w ∷ ws) words registers b at few =
      let one = word_passes l i w p words registers way base frame b (omega (arith, few)) at.0 at.1 at.2 in
      let f = one.0 in
      let rest = stores_all (i + 1) ps ws f.words' f.registers' (after_one l i words registers way base frame _ b f)
      (at_still_word registers f.registers' words f.words' base (reachable way frame) (l.arguments_at + l.argument_words) ps ws b.above one.2 (λ j h. f.kept j (inr h)) at.3) (omega (arith, few)) in
      let g = rest.0 in (
        does_on l i (i + 1) words registers (argument_word_code l.arguments_at way i p) (stored_code l.arguments_at way (i + 1) ps) b.apart (omega arith) f g,
        (g.kept (l.arguments_at + i) (inl (omega arith)) ∙ one.1, rest.1),
      )

  -- a word of the image into the register of an argument
  word_fetched :
      (i w : ℕ) (words registers : List ℕ) → Before l words registers way base frame → i < 14 → i < l.argument_words → slice_index words (l.arguments_at + i) ≡ w
      → Prepared words registers (at_word (l.arguments_at + i) (Lw (argument_register i))) (argument_register i) w (argument_register i)
  word_fetched i w words registers b within few is_word =
      let k = l.arguments_at + i in
      let hi = high_part (4 * k) in
      let lo = low_part (4 * k) in
      let is = is_value_register i within in
      let inside : k < length words = omega (arith, few, b.inside) in
      let one = prepared_one words registers (Lui 7 hi) 7 (hi * 4096) b.small b.ready (omega arith) (omega arith) (omega arith) (λ n. refl) in
      let parts = parts_sum (4 * k) (omega (arith, inside, b.frame_is.memory_small)) in
      let address : sum32 (slice_index one.registers' 7) (sign_extended 12 lo) ≡ 4 * k = ap (λ x. sum32 x (sign_extended 12 lo)) one.holds ∙ parts in
      let two = prepared_one words one.registers' (Lw (argument_register i) 7 lo) (argument_register i) (slice_index words k) b.small one.ready (omega (arith, is.0)) is.1 (b.small k)
      (λ n. ap (λ x. load (argument_register i) (number_at 4 x (bytes_of words)) (state_at n one.registers' words)) address
      ∙ ap (λ x. load (argument_register i) x (state_at n one.registers' words)) (word_read words k inside (b.small k))) in
      record {
        registers' = two.registers';
        sets = sets_on one.sets two.sets;
        holds = two.holds ∙ is_word;
        others = λ q ne n7. two.others q ne n7 ∙ one.others q n7 n7;
        bounded = λ h. two.bounded (one.bounded h);
        ready = two.ready;
      }

  -- a count of arguments from a number on, from their words
  fetches :
      (count i : ℕ) (ws words registers : List ℕ) → Before l words registers way base frame → AreStored words i ws → length ws ≡ count → i + count ≤ l.argument_words
      → (d : Does l i words registers (fetched_code l.arguments_at i count)) × (d.words' ≡ words) × ArePassed l d.registers' words i ws
  fetches zero i [] words registers b at e few = (does_none l i words registers b.small b.ready b.bounded, refl, tt)
  fetches zero i (w ∷ ws) words registers b at e few = absurd (omega (arith, e))
  fetches (suc count) i [] words registers b at e few = absurd (omega (arith, e))
  fetches (suc count) i (w ∷ ws) words registers b at e few =
      by (λ registers' b'. fetches count (i + 1) ws words registers' b' at.1 (omega (arith, e)) (omega (arith, few))) (nat_lt i 14) refl
    where
      by : ((registers' : List ℕ) → Before l words registers' way base frame
          → (d : Does l (i + 1) words registers' (fetched_code l.arguments_at (i + 1) count)) × (d.words' ≡ words) × ArePassed l d.registers' words (i + 1) ws)
          → (t : Bool) → nat_lt i 14 ≡ t
          → (d : Does l i words registers ((if t then at_word (l.arguments_at + i) (Lw (argument_register i)) else []) ++ fetched_code l.arguments_at (i + 1) count))
          × (d.words' ≡ words) × (((if t then slice_index d.registers' (argument_register i) else slice_index words (l.arguments_at + i)) ≡ w) × ArePassed l d.registers' words (i + 1) ws)
      by deeper true h =
          let within : i < 14 = grind (arith, nat_tests, h) in
          let is = is_value_register i within in
          let one = word_fetched i w words registers b within (omega (arith, few)) at.0 in
          let code = at_word (l.arguments_at + i) (Lw (argument_register i)) in
          let f = does_set l i words registers code (argument_register i) w (argument_register i) b.small b.bounded (inr (within, refl)) one in
          let rest = deeper one.registers' (after_one l i words registers way base frame _ b f) in
          let g = rest.0 in (
            does_on l i (i + 1) words registers code (fetched_code l.arguments_at (i + 1) count) b.apart (omega arith) f g,
            rest.1,
            (g.others (argument_register i) (λ k. omega (arith, is.0, k)) (λ k. omega (arith, is.0, k)) (λ j from to. others_apart i j within to (λ k. omega (arith, from, k))) ∙ one.holds, rest.2),
          )
      by deeper false h =
          let f = does_none l i words registers b.small b.ready b.bounded in
          let rest = deeper registers b in
          (does_on l i (i + 1) words registers [] (fetched_code l.arguments_at (i + 1) count) b.apart (omega arith) f rest.0, rest.1, (at.0, rest.2))

  -- whichever way
  pub passes :
      (ps : List Place) (ws words registers : List ℕ) → Before l words registers way base frame → AreAt registers words base (reachable way frame) ps ws
      → length ws ≡ length ps → length ps ≤ l.argument_words
      → (d : Does l 0 words registers (pass_code l.arguments_at way ps)) × ArePassed l d.registers' d.words' 0 ws
  passes ps ws words registers b at same few = by (are_in_order 0 ps) refl
    where
      through :
          (s : Does l 0 words registers (stored_code l.arguments_at way 0 ps)) → (g : Does l 0 s.words' s.registers' (fetched_code l.arguments_at 0 (length ps)))
          → g.words' ≡ s.words' → ArePassed l g.registers' s.words' 0 ws
          → (d : Does l 0 words registers (stored_code l.arguments_at way 0 ps ++ fetched_code l.arguments_at 0 (length ps))) × ArePassed l d.registers' d.words' 0 ws
      through s g e h = (
        does_on l 0 0 words registers (stored_code l.arguments_at way 0 ps) (fetched_code l.arguments_at 0 (length ps)) b.apart (omega arith) s g,
        subst (λ k. ArePassed l g.registers' k 0 ws) (sym e) h,
      )

      by : (t : Bool) → are_in_order 0 ps ≡ t
          → (d : Does l 0 words registers (if t then arguments_code l.arguments_at way 0 ps else stored_code l.arguments_at way 0 ps ++ fetched_code l.arguments_at 0 (length ps)))
          × ArePassed l d.registers' d.words' 0 ws
      by true e = passes_in_order 0 ps ws words registers b at e (omega (arith, few))
      by false e =
          let s = stores_all 0 ps ws words registers b at (omega (arith, few)) in
          let g = fetches (length ps) 0 ws s.0.words' s.0.registers' (after_one l 0 words registers way base frame _ b s.0) s.1 same (omega (arith, few)) in
          through s.0 g.0 g.1 g.2
