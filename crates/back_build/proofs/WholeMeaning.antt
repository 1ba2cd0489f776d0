-- What an image does in words of a flat program's meaning, in words of the whole program that was made flat.
use Rattle.std.proofs.Common.{inl, inr, ◌≡◌, ◌⊎◌, ℕ, ◌+◌, ◌*◌, ◌^◌, ◌<◌, ◌≤◌, List, length, refl, sym, ap, subst, ◌∙◌, arith, Some}
use Rattle.std.specs.Prelude.{true, slice_index}
use Rattle.base.specs.declared.place.Place.{Place}
use Rattle.lang_meaning.specs.declared.program.ProgramRows.{ProgramRows}
use Rattle.lang_meaning.specs.Counts.{bound}
use Rattle.lang_meaning.specs.Facts.{is_whole}
use Rattle.lang_meaning.specs.Meaning.{Meant, End, meaning, ended_value, ended_unhandled, ended_full, ended_more, place_of_site}
use Rattle.lang_meaning.specs.Prefixes.{IsPrefix}
use Rattle.lang_meaning.specs.State.{Limit, words, unlimited}
use Rattle.lang_meaning.specs.Values.{Value}
use Rattle.lang_alike.specs.Alike.{StoresAlike}
use Rattle.flat_language.specs.Flatten.{flat_program}
use Rattle.flat_language.specs.FlatMeaning.{flat_meaning}
use Rattle.flat_language.specs.FlatNodes.{tables}
use Rattle.flat_language.specs.declared.program.FlatProgram.{FlatProgram}
use Rattle.flat_language.specs.Law.{SameRun, LawOfClosures}
use Rattle.flat_stores.specs.Laws.{LawOfStores}
use Rattle.rv_machine.specs.declared.ending.Ending.TheVariants.{Budget, Halt, Unhandled}
use Rattle.rv_machine.specs.Run.{Ended, run_of}
use Rattle.mid_code.specs.State.{MidState}
use Rattle.mid_arena.specs.Places.{word_of}
use Rattle.mid_arena.specs.Represents.{Represents}
use Rattle.mid_start.specs.declared.symbol_words.SymbolWord.{SymbolWord}
use Rattle.mid_start.specs.LaidWell.{AreSymbolsThere, AreDistinct}
use Rattle.back_relation.specs.Setting.{Setting}
use Rattle.back_relation.specs.Worlds.{World}
use Rattle.back_relation.specs.Things.{Things}
use Rattle.back_claims.specs.Program.{ProgramBegins, meant_by, the_meaning, IsFullEnd}
use Rattle.back_runs.specs.Ends.{Leaves}
use Rattle.back_meant.specs.Laws.{with_limits, HaltsAs, UnhandledAs, EndsWell, IsOwnEnd, GoesOn, MeantRuns}
use Rattle.back_build.specs.Means.{Holds, HasWord, HaltsWith, EndsUnhandled, EndsFull, IsFull}
use Rattle.back_build.specs.Laws.{LawOfWholeMeaning}

module _ (closures : LawOfClosures) (stores : LawOfStores) (program : ProgramRows) (base : Setting) (symbols : List SymbolWord) (whole : is_whole program ≡ true)
    (flat : base.program ≡ flat_program program) (listed : AreSymbolsThere base.names symbols base.symbols) (once : AreDistinct base.symbols)
    (at : ℕ) (image : List ℕ) (arena : ℕ) (input : List ℕ) (w : World) (y : MidState)
    (begins : (charge turns : ℕ) → Holds arena image charge → ProgramBegins (with_limits base (words charge) turns) input w y)
    (runs : MeantRuns base image at arena input w y) where
  abbrev names : List (List ℕ)
  names = base.names

  abbrev whole_meaning : (k : ℕ) → Limit → Meant
  whole_meaning k limit = meaning names program input k limit

  abbrev meant_flat : (k : ℕ) → Limit → Meant
  meant_flat k limit = flat_meaning names base.program input k limit

  abbrev the_run : ℕ → Ended
  the_run n = run_of image (4 * at) arena input n

  same : (k : ℕ) (limit : Limit) → SameRun (whole_meaning k limit) (meant_flat k limit)
  same k limit =
      subst (λ (p : FlatProgram). SameRun (whole_meaning k limit) (flat_meaning names p input k limit)) (sym flat) (closures names program whole input k limit)

  -- the store with which the flat program ends
  alike : (k turns : ℕ) (limit : Limit) → StoresAlike (whole_meaning k limit).store (meant_by (with_limits base limit turns) input k).state.state.store
  unfolding flat_meaning
  alike k turns limit =
      subst (λ (p : FlatProgram). StoresAlike (whole_meaning k limit).store (flat_meaning names p input k limit).store) (sym flat) (stores names program whole input k limit)

  -- a word of a value, where all things stand with which a run ended
  has_word :
      (k turns : ℕ) (limit : Limit) (x : Ended) (last : World) (arena_left : MidState)
      → Things (with_limits base limit turns) last (meant_by (with_limits base limit turns) input k).state arena_left
      → (v : Value) (word : ℕ) → word_of last.places v ≡ Some word → Leaves arena_left x.at → HasWord names program symbols (whole_meaning k limit) x v word
  has_word k turns limit x last arena_left t v word of_value leaves = record {
    places = last.places;
    state = (meant_by (with_limits base limit turns) input k).state.state;
    alike = alike k turns limit;
    arena = arena_left;
    represents =
        subst (λ (p : FlatProgram). Represents names (tables p) last.places (meant_by (with_limits base limit turns) input k).state.state arena_left) flat
        t.represents;
    of_value = of_value;
    leaves = leaves;
    listed = subst (λ ps. AreSymbolsThere names symbols ps) (sym t.laid_symbols) listed;
    once = subst (λ ps. AreDistinct ps) (sym t.laid_symbols) once;
    serials = λ i serial e.
        let low = t.fresh_symbols.below i serial e in
        let taken = t.fresh_symbols.taken in
        let room = t.represents.arena.room in
        let size = t.represents.arena.size in
        omega (arith, low, taken, room, size);
  }

  -- a run that halted, or ended unhandled, with any limit
  halted : (k turns : ℕ) (limit : Limit) (x : Ended) (word : ℕ) → x.ending ≡ Halt word → HaltsAs (with_limits base limit turns) input k y x word
      → HaltsWith names program symbols (whole_meaning k limit) x
  halted k turns limit x word e h = record {
    word = word;
    ending = e;
    result = h.result;
    end = sym (same k limit).end ∙ h.end;
    has_word = has_word k turns limit x h.world h.state h.things h.result word h.of_value h.leaves;
    printed = h.printed ∙ (same k limit).printed;
  }

  unhandled : (k turns : ℕ) (limit : Limit) (x : Ended) (class : ℕ) → x.ending ≡ Unhandled class → UnhandledAs (with_limits base limit turns) input k y x class
      → EndsUnhandled names program symbols (whole_meaning k limit) x
  unhandled k turns limit x class e h = record {
    class = class;
    ending = e;
    condition = h.condition;
    place = h.place;
    end = sym (same k limit).end ∙ h.end;
    class_is = h.class_is ∙ (same k limit).class h.condition;
    site_is = elim h.site_is [
      | inl none ↦ inl none
      | inr some ↦ inr (some.0, ap (λ (p : FlatProgram). place_of_site p.sites (slice_index x.at.state.registers 11)) (sym flat) ∙ some.1)
    ];
    has_word = has_word k turns limit x h.world h.state h.things h.condition (slice_index x.at.state.registers 12) h.of_condition h.leaves;
    printed = h.printed ∙ (same k limit).printed;
  }

  prefix : (n : ℕ) → n < 2 ^ 32 → IsPrefix (the_run n).at.printed (whole_meaning n unlimited).printed
  prefix n few = subst (λ printed. IsPrefix (the_run n).at.printed printed) (same n unlimited).printed (runs.prefix n)

  paid : (n : ℕ) → n < 2 ^ 32 → (the_run n).ending ≡ Budget → GoesOn (whole_meaning n unlimited) n
  paid n few e =
      let flat_goes : GoesOn (meant_flat n unlimited) n = runs.paid n few e in
      subst (λ g. (g ≡ ended_more) ⊎ (IsOwnEnd g × (n < bound (whole_meaning n unlimited).units))) (same n unlimited).end
      (subst (λ u. ((meant_flat n unlimited).end ≡ ended_more) ⊎ (IsOwnEnd (meant_flat n unlimited).end × (n < bound u))) (same n unlimited).units flat_goes)

  well : (n turns : ℕ) → EndsWell (with_limits base unlimited turns) input n y (the_run n)
      → HaltsWith names program symbols (whole_meaning n unlimited) (the_run n) ⊎ EndsUnhandled names program symbols (whole_meaning n unlimited) (the_run n) ⊎ EndsFull names program symbols (the_run n)
  well n turns (inl (word, e, h)) = inl (halted n turns unlimited (the_run n) word e h)
  well n turns (inr (inl (class, e, h))) = inr (inl (unhandled n turns unlimited (the_run n) class e h))
  well n turns (inr (inr (asked, left, e))) = inr (inr (record { asked = asked; left = left; ending = e }))

  -- the end of a meaning that has no words left
  is_full : (k turns : ℕ) (limit : Limit) (e : End) → (meant_flat k limit).end ≡ e → IsFullEnd (with_limits base limit turns) input k y e
      → IsFull names program symbols (whole_meaning k limit)
  is_full k turns limit (ended_full asked left) e h = record { asked = asked; left = left; end = sym (same k limit).end ∙ e }
  is_full k turns limit ended_more e h = absurd h
  is_full k turns limit (ended_value v) e h = absurd h
  is_full k turns limit (ended_unhandled c place) e h = absurd h

  -- turns enough
  abbrev turns_for : (n k charge : ℕ) → ℕ
  turns_for n k charge = n + (16 * (meant_flat k (words charge)).units + length y.arena.memory + 1)

  full : (n : ℕ) → n < 2 ^ 32 → EndsFull names program symbols (the_run n) → (charge k : ℕ) → Holds arena image charge → n ≤ k
      → IsFull names program symbols (whole_meaning k (words charge))
  full n few f charge k holds le =
      is_full k (turns_for n k charge) (words charge) _ refl
      (runs.full n f.asked f.left f.ending charge k (turns_for n k charge) (begins charge (turns_for n k charge) holds) (omega arith) le (omega arith))

  module _ (charge k n : ℕ) (holds : Holds arena image charge) (low : bound (whole_meaning k (words charge)).units < 2 ^ 32)
      (paid : bound (whole_meaning k (words charge)).units ≤ n) where
    abbrev units_same : (meant_flat k (words charge)).units ≡ (whole_meaning k (words charge)).units
    units_same = (same k (words charge)).units

    in_time : ((v : Value) → (the_meaning (with_limits base (words charge) (turns_for n k charge)) input k y).end ≡ ended_value v
        → (word : ℕ) × ((the_run n).ending ≡ Halt word) × HaltsAs (with_limits base (words charge) (turns_for n k charge)) input k y (the_run n) word)
        × ((c : Value) (place : Place) → (the_meaning (with_limits base (words charge) (turns_for n k charge)) input k y).end ≡ ended_unhandled c place
        → (class : ℕ) × ((the_run n).ending ≡ Unhandled class) × UnhandledAs (with_limits base (words charge) (turns_for n k charge)) input k y (the_run n) class)
    in_time =
        runs.in_time charge k (turns_for n k charge) n (begins charge (turns_for n k charge) holds) (omega arith)
        (subst (λ u. bound u < 2 ^ 32) (sym units_same) low) (subst (λ u. bound u ≤ n) (sym units_same) paid)

    of_value : (v : Value) → (whole_meaning k (words charge)).end ≡ ended_value v → HaltsWith names program symbols (whole_meaning k (words charge)) (the_run n)
    of_value v e =
        let h = in_time.0 v ((same k (words charge)).end ∙ e) in
        halted k (turns_for n k charge) (words charge) (the_run n) h.0 h.1 h.2

    of_condition : (c : Value) (place : Place) → (whole_meaning k (words charge)).end ≡ ended_unhandled c place
        → EndsUnhandled names program symbols (whole_meaning k (words charge)) (the_run n)
    of_condition c place e =
        let h = in_time.1 c place ((same k (words charge)).end ∙ e) in
        unhandled k (turns_for n k charge) (words charge) (the_run n) h.0 h.1 h.2

pub whole_meaning_law : LawOfClosures → LawOfStores → LawOfWholeMeaning
whole_meaning_law closures stores program base symbols whole flat listed once at image arena input w y begins runs = record {
  prefix = prefix closures stores program base symbols whole flat listed once at image arena input w y begins runs;
  ends = λ n few. elim (runs.ends n) [
    | inl budget ↦ inl budget
    | inr (turns, well_ended) ↦ inr (well closures stores program base symbols whole flat listed once at image arena input w y begins runs n turns well_ended)
  ];
  paid = paid closures stores program base symbols whole flat listed once at image arena input w y begins runs;
  full = full closures stores program base symbols whole flat listed once at image arena input w y begins runs;
  in_time = λ charge k n holds low paid. (
    of_value closures stores program base symbols whole flat listed once at image arena input w y begins runs charge k n holds low paid,
    of_condition closures stores program base symbols whole flat listed once at image arena input w y begins runs charge k n holds low paid,
  );
}
