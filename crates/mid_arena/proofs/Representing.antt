-- How a representation goes on: where the arena grows, where an object is made or changed, and where fixed words change.
use Rattle.std.proofs.Common.{◌≡◌, ℕ, suc, ◌+◌, ◌<◌, ◌≤◌, Bool, true, false, List, [], ◌∷◌, length, Some, refl, sym, ap, ◌∙◌, arith}
use Rattle.std.specs.Prelude.{◌==◌, slice_get}
use Rattle.std.proofs.lemmas.Option.{slice_get_within}
use Rattle.std.proofs.lemmas.Bool.Decides.{nat_tests}
use Rattle.std.proofs.Math.ListN.{length-append, length-set}
use Rattle.base.specs.Names.{slice_get-front}
use Rattle.lang_meaning.specs.declared.program.ProgramRows.{ProgramRows}
use Rattle.lang_meaning.specs.Values.{Value}
use Rattle.lang_meaning.specs.Objects.{Object, function}
use Rattle.lang_meaning.specs.State as meaning
use Rattle.mid_code.specs.Arena.{Arena, stack_from}
use Rattle.mid_code.specs.State.{MidState}
use Rattle.mid_arena.specs.Tags.{symbol_header}
use Rattle.mid_arena.specs.Places.{Spot, end_of, Places, Owner, same_owner, of_object, of_symbol, of_other, spot_of, with_object}
use Rattle.mid_arena.specs.Standing.{of_heap, SpotStands, Apart, in_front, behind, SameWords, ValueAt}
use Rattle.mid_arena.specs.FixedWords.{fixed_words, nil_text, class_address, input_address, output_address, true_address, serial_address}
use Rattle.mid_arena.specs.FixedWords.{line_address, peeked_address, InputIs, untouched, looked_at, FixedStand}
use Rattle.mid_arena.specs.Layouts.{AreBytes, ObjectAt}
use Rattle.mid_arena.specs.Represents.{Represents}
use Rattle.mid_arena.specs.Answers.{KeepsWords}
use Rattle.mid_arena.proofs.ClassesKept.{IsNewObject, classes_same, classes_stored, classes_changed}
use Rattle.mid_arena.proofs.Keeping.{PlacesExtend, extends_same, extends_one, old_spot, text_kept, value_kept, symbol_kept, object_kept}
use Rattle.mid_arena.specs.Growing.{HeapGrows, Grows, Changes}
use Rattle.mid_arena.proofs.Growing.{spot_below, spot_grown, words_grown, spot_changed, words_apart}
use Rattle.mid_arena.proofs.Owners.{after_zero, FrontOrEnd, at_front, at_end, front_or_end, OldOrNew, of_old}
use Rattle.mid_arena.proofs.Owners.{of_new, new_object, old_or_new, same_number, object_within, SetOrNot, at_place, elsewhere, set_or_not}

-- ---- the fixed words

abbrev pub fixed_spot : Spot
fixed_spot = record { address = 0; words = fixed_words; tag = 0 }

pub input_kept : (a b : Arena) (left bytes : List ℕ) → SameWords a b fixed_spot → InputIs a left bytes → InputIs b left bytes
input_kept a b left bytes same (untouched e) = untouched (same peeked_address (omega arith) (omega arith) ∙ e)
input_kept a b left bytes same (looked_at byte e) = looked_at byte (same peeked_address (omega arith) (omega arith) ∙ e)

pub fixed_kept :
    (names : List (List ℕ)) (program : ProgramRows) (before after : Places) (a b : Arena) (symbols : ℕ) (printed bytes left : List ℕ)
    → PlacesExtend before after → slice_get after.others 0 ≡ slice_get before.others 0 → SameWords a b fixed_spot
    → FixedStand names program before a symbols printed bytes left → FixedStand names program after b symbols printed bytes left
fixed_kept names program before after a b symbols printed bytes left more others same f = record {
  spot = others ∙ f.spot;
  classes = λ class h. kept (class_address class) _ (omega arith) (f.classes class h);
  input_stream = kept input_address _ (omega arith) f.input_stream;
  output_stream = kept output_address _ (omega arith) f.output_stream;
  true_value = kept true_address _ (omega arith) f.true_value;
  serial = same serial_address (omega arith) (omega arith) ∙ f.serial;
  line = kept line_address _ (omega arith) f.line;
  input = input_kept a b left bytes same f.input;
  nil_name = text_kept a b _ (λ x low high. same x (omega arith) (omega arith)) symbol_header nil_text f.nil_name;
  no_name = text_kept a b _ (λ x low high. same x (omega arith) (omega arith)) symbol_header [] f.no_name;
}
  where
    kept : (address : ℕ) (v : Value) → address < 184 → ValueAt before a address v → ValueAt after b address v
    kept address v high = value_kept a b fixed_spot same before after more address v (omega arith) high

-- ---- a growing arena

-- each state with the same objects, fresh symbols, output and input is represented too
pub represents_same :
    (names : List (List ℕ)) (program : ProgramRows) (places : Places) (z z' : meaning.State) (y : MidState)
    → z'.store ≡ z.store → z'.symbols ≡ z.symbols → z'.printed ≡ z.printed → z'.input ≡ z.input
    → Represents names program places z y → Represents names program places z' y
represents_same names program places z z' y store symbols printed input r = record {
  built_in = r.built_in;
  arena = r.arena;
  spots = r.spots;
  apart = r.apart;
  count = rw store r.count;
  classes = classes_same names program z r.classes z' store;
  objects = λ i o s found e. r.objects i o s (cc found) e;
  symbols = r.symbols;
  no_nil = r.no_nil;
  fixed = rw (symbols, printed, input) r.fixed;
  input = rw input r.input;
  printed = r.printed ∙ sym printed;
}

-- ---- what is kept, step by step

-- where the stack in between begins no higher
pub kept_both :
    (places : Places) (z : meaning.State) (a b c : Arena) → KeepsWords places z a b → KeepsWords places z b c → stack_from b ≤ stack_from a
    → KeepsWords places z a c
kept_both places z a b c g h low = record {
  functions = λ i p s found e x from to. h.functions i p s found e x from to ∙ g.functions i p s found e x from to;
  others = λ n s e x from to. h.others n s e x from to ∙ g.others n s e x from to;
  stack = λ x from to. h.stack x (omega (arith, low, from)) to ∙ g.stack x from (omega (arith, low, from));
}

-- with the same objects
pub kept_same : (places : Places) (z z' : meaning.State) (a b : Arena) → z'.store ≡ z.store → KeepsWords places z' a b → KeepsWords places z a b
kept_same places z z' a b store k = record {
  functions = λ i p s found e. k.functions i p s (ap (λ os. slice_get os i) store ∙ found) e;
  others = k.others;
  stack = k.stack;
}

-- with one object fewer
pub kept_made :
    (places : Places) (z : meaning.State) (s : Spot) (o : Object) (a b : Arena) → KeepsWords (with_object s places) (meaning.stored o z) a b → KeepsWords places z a b
kept_made places z s o a b k = record {
  functions = λ i p one found e. k.functions i p one (slice_get-front z.store (o ∷ []) i (function p) found) (old_spot s places (of_object i) one e);
  others = k.others;
  stack = k.stack;
}

-- ---- a represented state

module _ (names : List (List ℕ)) (program : ProgramRows) (places : Places) (z : meaning.State) (y : MidState) (r : Represents names program places z y) where
  pub fixed_stands : SpotStands y.arena fixed_spot
  fixed_stands = r.spots (of_other 0) fixed_spot r.fixed.spot

  -- what an owner's spot has stays
  pub owned_grown : (b : Arena) → HeapGrows y.arena b → (p : Owner) (s : Spot) → spot_of places p ≡ Some s → SameWords y.arena b s
  owned_grown b g p s e = words_grown y.arena b s g r.arena (r.spots p s e)

  -- and where one spot changes, what those of other owners have
  pub beside_kept :
      (owner : Owner) (s : Spot) → spot_of places owner ≡ Some s → (b : Arena) → Changes s y.arena b → (p : Owner) (one : Spot) → same_owner p owner ≡ false
      → spot_of places p ≡ Some one → SameWords y.arena b one
  beside_kept owner s at b c p one different e = words_apart y.arena b s one c r.arena (r.spots p one e) (r.apart p owner one s different e at)

  pub kept_grown : (b : Arena) → Grows y.arena b → KeepsWords places z y.arena b
  kept_grown b g = record {
    functions = λ i p s found e. owned_grown b g.heap (of_object i) s e;
    others = λ n s e. owned_grown b g.heap (of_other (suc n)) s e;
    stack = g.stack;
  }

  module _ (y' : MidState) (g : HeapGrows y.arena y'.arena) (printed : y'.printed ≡ y.printed) (input : y'.input ≡ y.input) where
    pub represents_grown : Represents names program places z y'
    represents_grown = record {
      built_in = r.built_in;
      arena = g.stands;
      spots = λ p s e. spot_grown g (r.spots p s e);
      apart = r.apart;
      count = r.count;
      classes = r.classes;
      objects = λ i o s found e.
          object_kept y.arena y'.arena s (owned_grown y'.arena g (of_object i) s e) places places (extends_same places) names program o
          (r.objects i o s found e);
      symbols = λ v s e. symbol_kept y.arena y'.arena s (owned_grown y'.arena g (of_symbol v) s e) v (r.symbols v s e);
      no_nil = r.no_nil;
      fixed =
          rw input (fixed_kept names program places places y.arena y'.arena z.symbols z.printed z.input y.input (extends_same places) refl
          (owned_grown y'.arena g (of_other 0) fixed_spot r.fixed.spot) r.fixed);
      input = r.input;
      printed = printed ∙ r.printed;
    }

    -- a spot more, at the end of the heap
    module _ (s : Spot) (address : s.address ≡ y.arena.heap_to) (high : end_of s ≤ y'.arena.heap_to) (some : 1 ≤ s.words) (tag : s.tag < 4) where
      pub new_stands : SpotStands y'.arena s
      new_stands = record {
        aligned = omega (arith, r.arena.aligned);
        some = some;
        tag = tag;
        part = of_heap (omega (arith, g.heap_from, r.arena.heap)) high;
      }

      -- the old spots end where the new one begins
      old_in_front : (p : Owner) (old : Spot) → spot_of places p ≡ Some old → end_of old ≤ s.address
      old_in_front p old e = let below = spot_below r.arena (r.spots p old e) in omega arith

      -- so all spots are apart, also that of a new owner
      pub made_apart :
          (new : Owner) → same_owner new new ≡ true → (p q : Owner) (first second : Spot) → same_owner p q ≡ false → OldOrNew s places new p first
          → OldOrNew s places new q second → Apart first second
      made_apart new self p q first second different (of_old d) (of_old e) = r.apart p q first second different d e
      made_apart new self p q first second different (of_old d) (of_new e same) = rw same (in_front (old_in_front p first d))
      made_apart new self p q first second different (of_new d same) (of_old e) = rw same (behind (old_in_front q second e))
      made_apart new self p q first second different (of_new d same) (of_new e same') =
          let other : same_owner new new ≡ false = cc in
          absurd (cc (self, other))

      pub made_spot : (new p : Owner) (found : Spot) → OldOrNew s places new p found → SpotStands y'.arena found
      made_spot new p found (of_old e) = spot_grown g (r.spots p found e)
      made_spot new p found (of_new e same) = rw same new_stands

      -- an object more
      module _ (o : Object) (made : ObjectAt names program (with_object s places) y'.arena s o) (is_made : IsNewObject program o) where
        made_object :
            (i : ℕ) (one : Object) (found : Spot) → FrontOrEnd z.store o i one → OldOrNew s places (new_object places) (of_object i) found
            → ObjectAt names program (with_object s places) y'.arena found one
        made_object i one found (at_front d) (of_old e) =
            object_kept y.arena y'.arena found (owned_grown y'.arena g (of_object i) found e) places (with_object s places) (extends_one s places) names program one
            (r.objects i one found d e)
        made_object i one found (at_front d) (of_new e same) =
            let within = slice_get_within z.store i one d in
            let last : i ≡ length places.objects = cc e in
            absurd (omega (arith, r.count))
        made_object i one found (at_end d same) (of_old e) = let within = object_within places i found e in absurd (omega (arith, r.count))
        made_object i one found (at_end d same) (of_new e at) = rw (same, at) made

        pub represents_made : Represents names program (with_object s places) (meaning.stored o z) y'
        represents_made = record {
          built_in = r.built_in;
          arena = g.stands;
          spots = λ p found e. made_spot (new_object places) p found (old_or_new s places p found e);
          apart = λ p q first second different d e. made_apart (new_object places) (same_number (length places.objects)) p q first second different (old_or_new s places p first d) (old_or_new s places q second e);
          count =
              length-append places.objects (Some s ∷ []) ∙ ap (λ n. n + 1) r.count ∙ sym (length-append z.store (o ∷ []));
          classes = classes_stored names program z r.classes o is_made;
          objects = λ i one found d e. made_object i one found (front_or_end z.store o i one d) (old_or_new s places (of_object i) found e);
          symbols = λ v found e. symbol_kept y.arena y'.arena found (owned_grown y'.arena g (of_symbol v) found e) v (r.symbols v found e);
          no_nil = r.no_nil;
          fixed =
              rw input (fixed_kept names program places (with_object s places) y.arena y'.arena z.symbols z.printed z.input y.input (extends_one s places) refl
              (owned_grown y'.arena g (of_other 0) fixed_spot r.fixed.spot) r.fixed);
          input = r.input;
          printed = printed ∙ r.printed;
        }

  -- an object is changed in its spot
  module _ (i : ℕ) (s : Spot) (at : spot_of places (of_object i) ≡ Some s) (b : Arena) (c : Changes s y.arena b) where
    -- the spot of another owner keeps its words
    other_kept : (p : Owner) (one : Spot) → same_owner p (of_object i) ≡ false → spot_of places p ≡ Some one → SameWords y.arena b one
    other_kept = beside_kept (of_object i) s at b c

    -- which is none that a function has for itself
    pub kept_changed : (o : Object) → slice_get z.store i ≡ Some o → ((p : ℕ) → o ≡ function p → ⊥) → KeepsWords places z y.arena b
    kept_changed o stored no_function = record {
      functions = λ j p one found e. other_kept (of_object j) one (other j p found) e;
      others = λ n one e. other_kept (of_other (suc n)) one refl e;
      stack = c.stack;
    }
      where
        other : (j p : ℕ) → slice_get z.store j ≡ Some (function p) → (j == i) ≡ false
        other j p found = by (j == i) refl
          where
            by : (b : Bool) → (j == i) ≡ b → b ≡ false
            by false e = refl
            by true e =
                let equal : j ≡ i = grind (arith, nat_tests) in
                let same : slice_get z.store i ≡ Some (function p) = rw (← equal) found in
                absurd (no_function p (cc (stored, same)))

    changed_object :
        (now : Object) → ObjectAt names program places b s now
        → (j : ℕ) (o : Object) (one : Spot) → SetOrNot z.store i now j o → spot_of places (of_object j) ≡ Some one → ObjectAt names program places b one o
    changed_object now made j o one (at_place e same) found =
        let spot : one ≡ s = cc (ap (λ k. spot_of places (of_object k)) e) in
        rw (spot, same) made
    changed_object now made j o one (elsewhere different stored) found =
        object_kept y.arena b one (other_kept (of_object j) one different found) places places (extends_same places) names program o
        (r.objects j o one stored found)

  pub represents_changed :
      (i : ℕ) (s : Spot) (old now : Object) (y' : MidState) → slice_get z.store i ≡ Some old → IsNewObject program old → IsNewObject program now
      → spot_of places (of_object i) ≡ Some s → Changes s y.arena y'.arena → ObjectAt names program places y'.arena s now
      → y'.printed ≡ y.printed → y'.input ≡ y.input → Represents names program places (meaning.changed i now z) y'
  represents_changed i s old now y' stored was is_made at c made printed input = record {
    built_in = r.built_in;
    arena = c.stands;
    spots = λ p one e. spot_changed y.arena y'.arena s one c (r.spots p one e);
    apart = r.apart;
    count = r.count ∙ sym (length-set z.store i now);
    classes = classes_changed names program z r.classes i old now stored was is_made;
    objects = λ j o one stored found. changed_object i s at y'.arena c now made j o one (set_or_not z.store i now j o stored) found;
    symbols = λ v one e. symbol_kept y.arena y'.arena one (other_kept i s at y'.arena c (of_symbol v) one refl e) v (r.symbols v one e);
    no_nil = r.no_nil;
    fixed =
        rw input (fixed_kept names program places places y.arena y'.arena z.symbols z.printed z.input y.input (extends_same places) refl
        (other_kept i s at y'.arena c (of_other 0) fixed_spot refl r.fixed.spot) r.fixed);
    input = r.input;
    printed = printed ∙ r.printed;
  }

  -- fixed words change
  module _ (b : Arena) (c : Changes fixed_spot y.arena b) where
    not_fixed_kept : (p : Owner) (one : Spot) → same_owner p (of_other 0) ≡ false → spot_of places p ≡ Some one → SameWords y.arena b one
    not_fixed_kept = beside_kept (of_other 0) fixed_spot r.fixed.spot b c

    pub kept_fixed : KeepsWords places z y.arena b
    kept_fixed = record {
      functions = λ i p s found e. not_fixed_kept (of_object i) s refl e;
      others = λ n s e. not_fixed_kept (of_other (suc n)) s (after_zero n) e;
      stack = c.stack;
    }

  pub represents_fixed :
      (z' : meaning.State) (y' : MidState) → Changes fixed_spot y.arena y'.arena → z'.store ≡ z.store
      → FixedStand names program places y'.arena z'.symbols z'.printed z'.input y'.input → AreBytes z'.input → y'.printed ≡ z'.printed
      → Represents names program places z' y'
  represents_fixed z' y' c store fixed input printed = record {
    built_in = r.built_in;
    arena = c.stands;
    spots = λ p s e. spot_changed y.arena y'.arena fixed_spot s c (r.spots p s e);
    apart = r.apart;
    count = r.count ∙ ap (λ os. length os) (sym store);
    classes = classes_same names program z r.classes z' store;
    objects = λ i o s found e.
        object_kept y.arena y'.arena s (not_fixed_kept y'.arena c (of_object i) s refl e) places places (extends_same places) names program o
        (r.objects i o s (sym (ap (λ os. slice_get os i) store) ∙ found) e);
    symbols = λ v s e. symbol_kept y.arena y'.arena s (not_fixed_kept y'.arena c (of_symbol v) s refl e) v (r.symbols v s e);
    no_nil = r.no_nil;
    fixed = fixed;
    input = input;
    printed = printed;
  }
