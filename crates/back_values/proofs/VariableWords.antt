-- A variable behind the control words gets another value: its word is stored, and all else that those words say goes on being said.
use Rattle.std.proofs.Common.{◌≡◌, ℕ, ◌+◌, ◌*◌, ◌%◌, ◌/◌, ◌^◌, ◌<◌, ◌≤◌, Bool, true, false, List, [], ◌∷◌, Option, Some, refl, sym, ap, ◌∙◌, subst, arith}
use Rattle.std.specs.Prelude.{slice_get, ◌==◌, ◌&&◌, if◌then◌else◌}
use Rattle.std.specs.Str.{bytes_eq}
use Rattle.std.proofs.lemmas.Bool.{ne_eqb, eq-eqb}
use Rattle.std.proofs.lemmas.Bool.Decides.{nat_tests}
use Rattle.std.proofs.Math.ListN.{length-set}
use Rattle.lang_meaning.specs.Lookup.{text, under_text}
use Rattle.lang_meaning.specs.State.{State, Limit, words, unlimited}
use Rattle.lang_meaning.specs.Values.{Value}
use Rattle.flat_language.specs.FlatNodes.{tables}
use Rattle.flat_language.specs.FlatState.{FlatState, on_state}
use Rattle.mid_code.specs.Arena.{is_lent, word_at, with_word}
use Rattle.mid_code.specs.State.{MidState, with_arena}
use Rattle.mid_code.specs.State.{charged as mid_charged}
use Rattle.mid_arena.specs.Growing.{Changes}
use Rattle.mid_arena.specs.Law.{KeepsOthers}
use Rattle.mid_arena.specs.Places.{Spot, Owner, of_other, same_owner, spot_of, word_of}
use Rattle.mid_arena.specs.Represents.{Represents}
use Rattle.mid_arena.specs.Standing.{SpotStands, SlotAt}
use Rattle.mid_arena.proofs.Growing.{spot_below}
use Rattle.mid_arena.proofs.Memory.{in_spot_lent, in_spot_there, word_here, word_elsewhere}
use Rattle.mid_arena.proofs.OwnWords.{changes_in_spot, own_words}
use Rattle.mid_arena.proofs.Representing.{represents_same}
use Rattle.back_lowering.specs.ControlWords.{control_address, control_words, variables_address, serials_address, current_address, link_address, handlers_address, bindings_address, end_address}
use Rattle.back_lowering.specs.Placement.{global_address, dynamic_address}
use Rattle.back_relation.specs.Setting.{Setting, control_spot, spots_at_start}
use Rattle.back_relation.specs.Placed.{HasGlobal, HasDynamic, IsVariableWord}
use Rattle.back_relation.specs.Worlds.{World, BoxPlace, on_heap, on_stack, gone}
use Rattle.back_relation.specs.Things.{Things, WithinLimit}
use Rattle.back_relation.specs.Ends.{WorldKept, Around}
use Rattle.back_relation.proofs.Worlds.{later_same}
use Rattle.back_values.specs.Boxes.{Clean}
use Rattle.back_values.proofs.Moved.{KeepsBox, box_moves, method_moves, functions_move, further_moves, slot_moves}
use Rattle.back_values.proofs.SetBoxes.{late_two}

both_true : (a b : Bool) → (a && b) ≡ true → (a ≡ true) × (b ≡ true)
both_true true b h = (refl, h)
both_true false b h = absurd (cc h)

same_bytes : (xs ys : List ℕ) → bytes_eq xs ys ≡ true → xs ≡ ys
same_bytes [] [] h = refl
same_bytes [] (y ∷ ys) h = absurd (cc h)
same_bytes (x ∷ xs) [] h = absurd (cc h)
same_bytes (x ∷ xs) (y ∷ ys) h =
    let g = both_true (x == y) (bytes_eq xs ys) h in
    let first : x ≡ y = by_test g.0 in
    let more = same_bytes xs ys g.1 in
    cc
  where
    by_test : (x == y) ≡ true → x ≡ y
    by_test e = grind (arith, nat_tests)

bytes_same : (xs : List ℕ) → bytes_eq xs xs ≡ true
bytes_same [] = refl
bytes_same (x ∷ xs) =
    let here : (x == x) ≡ true = eq-eqb x x refl in
    let more = bytes_same xs in
    ap (λ b. b && bytes_eq xs xs) here ∙ more

-- a word is stored where it may be, and the state that is meant is another one: all else goes on
pub record IsStored (setting : Setting) (w : World) (z meant : FlatState) (y : MidState) (at word cost : ℕ) : Type 0 where
  pub lent : is_lent y.arena at ≡ true
  pub low : at < 2 ^ 26
  pub world : WorldKept setting w w z meant y (with_arena (with_word at word y.arena) (mid_charged cost y))
  pub around : (credit : ℕ) → cost ≤ credit → Around setting credit z meant y (with_arena (with_word at word y.arena) (mid_charged cost y))

module _ (setting : Setting) {w : World} {z : FlatState} {y : MidState} (t : Things setting w z y) (clean : Clean w y) (at : ℕ) (variable : IsVariableWord setting at)
    (behind : variables_address ≤ at) (v : Value) (word cost : ℕ) (is : word_of w.places v ≡ Some word) where
  stands : SpotStands y.arena (control_spot setting)
  stands = t.represents.spots (of_other 1) (control_spot setting) t.control

  aligned : at % 4 ≡ 0
  aligned = let four = variable.aligned in let same = four.1 in omega (arith, same)

  low : control_address + 4 * control_words ≤ at
  low = behind

  high : at < control_address + 4 * (control_words + setting.variable_words)
  high = variable.below

  lent : is_lent y.arena at ≡ true
  lent = in_spot_lent at stands aligned (omega (arith, low)) high

  abbrev pub stored : MidState
  stored = with_arena (with_word at word y.arena) (mid_charged cost y)

  changes : Changes (control_spot setting) y.arena stored.arena
  changes = changes_in_spot at word t.represents.arena stands aligned (omega (arith, low)) high

  moved : Represents setting.names (tables setting.program) w.places z.state stored × KeepsOthers w.places (of_other 1) y.arena stored.arena
  moved = own_words setting.names (tables setting.program) w.places z.state y stored 0 (control_spot setting) t.represents t.control changes (record { printed = refl; input = refl })

  abbrev Stays : Owner → Type 0
  Stays p = same_owner p (of_other 1) ≡ false

  same : (p : Owner) (s : Spot) → Stays p → spot_of w.places p ≡ Some s → (q : ℕ) → s.address ≤ q → q < s.address + 4 * s.words → word_at stored.arena q ≡ word_at y.arena q
  same p s stays e q from to = moved.1 p s stays e q from to

  late_stays : (k : ℕ) → spots_at_start setting.further ≤ k → Stays (of_other k)
  late_stays k late = let two = late_two setting.further k late in ne_eqb k 1 (λ e. omega (arith, e, two))

  elsewhere : (q : ℕ) → (at ≡ q → ⊥) → word_at stored.arena q ≡ word_at y.arena q
  elsewhere q other = word_elsewhere y.arena at word q aligned (ne_eqb at q other)

  below : at < y.arena.heap_to
  below = let end = spot_below t.represents.arena stands in omega (arith, high, end)

  keeps : (j : ℕ) (b : BoxPlace) → slice_get w.boxes j ≡ Some b → KeepsBox setting stored t (later_same w) Stays same b
  keeps j (on_heap x) e = λ k. late_stays k.number k.late
  keeps j (on_stack x) e = let from = clean j x e in elsewhere x (λ e'. omega (arith, e', from, below, t.represents.arena.room))
  keeps j gone e = tt

  -- what another word behind the control words has stands on
  pub slot_stands : (q : ℕ) (o : Option Value) → (at ≡ q → ⊥) → SlotAt w.places y.arena q o → SlotAt w.places stored.arena q o
  slot_stands q o other h = slot_moves setting stored t (later_same w) Stays same q o (elsewhere q other) h

  -- what a variable of the same kind has, where the word belongs to a text
  pub value_stands :
      (key other : List ℕ) (q : ℕ) (values : List (List ℕ × Value)) → (key ≡ other → at ≡ q) → (at ≡ q → key ≡ other) → SlotAt w.places y.arena q (under_text other values)
      → SlotAt w.places stored.arena q (under_text other ((key, v) ∷ values))
  value_stands key other q values same_word same_text old = by (bytes_eq other key) refl
    where
      by : (b : Bool) → bytes_eq other key ≡ b → SlotAt w.places stored.arena q (if b then Some v else under_text other values)
      by true e =
          let here : at ≡ q = same_word (sym (same_bytes other key e)) in
          record {
            word = word;
            of_value = is;
            stands = subst (λ x. word_at stored.arena x ≡ Some word) here (word_here y.arena at word lent (in_spot_there at t.represents.arena stands high));
          }
      by false e =
          let apart : at ≡ q → ⊥ = λ e'. absurd (cc (sym e ∙ ap (bytes_eq other) (same_text e') ∙ bytes_same other)) in
          slot_stands q (under_text other values) apart old

  control_word : (q x : ℕ) → q < control_address + 4 * control_words → word_at y.arena q ≡ Some x → word_at stored.arena q ≡ Some x
  control_word q x few e = elsewhere q (λ e'. omega (arith, e', low, few)) ∙ e

  module _ (globals dynamics : List (List ℕ × Value))
      (globals_stand : (n : ℕ) → HasGlobal setting n → SlotAt w.places stored.arena (global_address setting.at n) (under_text (text setting.names n) globals))
      (dynamics_stand : (n : ℕ) → HasDynamic setting n → SlotAt w.places stored.arena (dynamic_address setting.at n) (under_text (text setting.names n) dynamics)) where
    abbrev meant : FlatState
    meant = on_state (λ (s : State). record s { globals = globals; dynamics = dynamics }) z

    things : Things setting w meant stored
    things = record {
      represents = represents_same setting.names (tables setting.program) w.places z.state meant.state stored refl refl refl refl moved.0;
      within_limit = limit setting.limit t.within_limit;
      control = t.control;
      further = λ j q e. further_moves setting stored t (later_same w) Stays same j q refl e;
      serials = let s = t.serials in (s.0, control_word serials_address s.0 (omega arith) s.1, s.2, s.3);
      globals = globals_stand;
      dynamics = dynamics_stand;
      literals = t.literals;
      symbols = t.symbols;
      laid_symbols = t.laid_symbols;
      fresh_symbols = t.fresh_symbols;
      box_count = t.box_count;
      boxes_apart = t.boxes_apart;
      boxes = λ j b e. box_moves setting stored t (later_same w) Stays same j b meant.state refl (keeps j b e) (t.boxes j b e);
      methods = λ j a called e. method_moves setting stored t (later_same w) Stays same a called (λ k late f. late_stays k late) (t.methods j a called e);
      exit_forms = t.exit_forms;
      functions = λ j p s e f. functions_move setting stored t (later_same w) Stays same (λ k. refl) j p s e f;
      captured = t.captured;
      generics = t.generics;
    }
      where
        limit : (l : Limit) → WithinLimit l z.state → WithinLimit l meant.state
        limit unlimited h = tt
        limit (words m) h = h

    -- the variables have the values that stand in the words
    pub variable_stored : IsStored setting w z meant y at word cost
    variable_stored = record {
      lent = lent;
      low = let end = spot_below t.represents.arena stands in omega (arith, high, end, t.represents.arena.room, t.represents.arena.size);
      world = record {
        later = later_same w;
        things = things;
        stack = record {
          words = λ q from to plain. elsewhere q (λ e. omega (arith, e, from, below, t.represents.arena.room));
          bindings = λ j a e from to. e;
        };
        end = λ n e. control_word end_address n (omega arith) e;
        more_exits = omega arith;
        same_size = length-set y.arena.memory (at / 4) (Some word);
      };
      around = λ credit cheap. record {
        control = record {
          current = λ n e. control_word current_address n (omega arith) e;
          link = λ n e. control_word link_address n (omega arith) e;
          handlers = λ n e. control_word handlers_address n (omega arith) e;
          bindings = λ n e. control_word bindings_address n (omega arith) e;
        };
        blocks = refl;
        charged = let size = length-set y.arena.memory (at / 4) (Some word) in omega (arith, size);
        paid = omega (arith, cheap);
      };
    }
