-- Where words that code has for itself are stored, boxes are gone or exits are made, what words say goes on being said.
use Rattle.std.proofs.Common.{◌≡◌, ℕ, ◌+◌, ◌*◌, ◌^◌, ◌<◌, ◌≤◌, List, [], ◌∷◌, length, Option, Some, None, refl, ◌∙◌, subst, arith}
use Rattle.std.specs.Prelude.{slice_get}
use Rattle.std.proofs.lemmas.Option.{slice_get_within}
use Rattle.lang_meaning.specs.declared.scope.ExitForm.{ExitForm}
use Rattle.lang_meaning.specs.declared.program.LiteralRow.{LiteralRow}
use Rattle.lang_meaning.specs.declared.program.LiteralRow.TheVariants as row
use Rattle.lang_meaning.specs.Objects.{Called, function}
use Rattle.lang_meaning.specs.Values.{Value}
use Rattle.lang_meaning.specs.State.{Limit, words, unlimited}
use Rattle.flat_language.specs.FlatNodes.{tables}
use Rattle.flat_language.specs.FlatState.{Captured, of_value, of_box, of_exit, of_method, FlatState}
use Rattle.mid_code.specs.Arena.{Arena, word_at}
use Rattle.mid_code.specs.State.{MidState}
use Rattle.mid_arena.specs.Places.{Spot, of_object, of_other, spot_of}
use Rattle.mid_arena.specs.Represents.{Represents}
use Rattle.mid_arena.specs.Standing.{SlotAt, SameWords}
use Rattle.mid_arena.proofs.Representing.{represents_same}
use Rattle.back_lowering.specs.ControlWords.{serials_address}
use Rattle.back_lowering.specs.Placement.{global_address, dynamic_address}
use Rattle.back_relation.specs.Setting.{Setting, spots_at_start}
use Rattle.back_relation.specs.Placed.{HasGlobal, HasDynamic}
use Rattle.back_relation.specs.StackWords.{HasWordAt}
use Rattle.back_relation.specs.Worlds.{World, BoxPlace, on_heap, on_stack, gone, Later, BoxesApart}
use Rattle.back_relation.specs.Things.{Things, TakenSpot, WithinLimit, CapturedIs, CapturedAt, BoxStands, MethodStands, FunctionStands, LiteralIs}
use Rattle.back_relation.proofs.Activations.{made_by_later}
use Rattle.back_relation.proofs.Fresh.{fresh_from}

late_number : (ws : List ℕ) (n : ℕ) → spots_at_start ws ≤ n → 2 ≤ n
late_number [] n h = h
late_number (w ∷ ws) n h = omega (arith, h)

-- where a variable of the state was, if it is anywhere
abbrev pub BoxWas : World → (before after : Arena) → ℕ → BoxPlace → Type 0
BoxWas w before after i (on_heap x) = slice_get w.boxes i ≡ Some (on_heap x)
BoxWas w before after i (on_stack x) = (slice_get w.boxes i ≡ Some (on_stack x)) × (word_at after x ≡ word_at before x)
BoxWas w before after i gone = Unit {0}

-- The words of objects, of variables and of spots behind the control words are as they were, and the heap is no smaller; where boxes are, and
-- which forms made exits.
pub record Goes (setting : Setting) (w : World) (boxes : List BoxPlace) (forms : List (Option ExitForm)) (exits : ℕ) (z : FlatState) (y y' : MidState) : Type 0 where
  pub represents : Represents setting.names (tables setting.program) w.places z.state y'
  pub heap : y.arena.heap_to ≤ y'.arena.heap_to
  pub objects : (i : ℕ) (s : Spot) → spot_of w.places (of_object i) ≡ Some s → SameWords y.arena y'.arena s
  pub others : (n : ℕ) (s : Spot) → 2 ≤ n → spot_of w.places (of_other n) ≡ Some s → SameWords y.arena y'.arena s
  pub globals : (n : ℕ) → HasGlobal setting n → word_at y'.arena (global_address setting.at n) ≡ word_at y.arena (global_address setting.at n)
  pub dynamics : (n : ℕ) → HasDynamic setting n → word_at y'.arena (dynamic_address setting.at n) ≡ word_at y.arena (dynamic_address setting.at n)
  pub serials : (drawn : ℕ) × HasWordAt y' serials_address drawn × (drawn + 1 ≡ exits) × (drawn < 2 ^ 32)
  pub count : length boxes ≡ length w.boxes
  pub were : (i : ℕ) (b : BoxPlace) → slice_get boxes i ≡ Some b → BoxWas w y.arena y'.arena i b
  pub kept : (i a : ℕ) → slice_get w.boxes i ≡ Some (on_heap a) → slice_get boxes i ≡ Some (on_heap a)
  pub form_count : length forms ≡ exits
  pub forms_kept : (e : ℕ) (o : Option ExitForm) → slice_get w.exit_forms e ≡ Some o → slice_get forms e ≡ Some o

module _ (setting : Setting) {w : World} {z : FlatState} {y y' : MidState} {boxes : List BoxPlace} {forms : List (Option ExitForm)} {exits : ℕ} (made : List ℕ)
    (t : Things setting w z y) (g : Goes setting w boxes forms exits z y y') where
  abbrev w' : World
  w' = record w { boxes = boxes; exit_forms = forms }

  abbrev z' : FlatState
  z' = record z { state = record z.state { exits = exits; made = made } }

  at_address : (x x' : ℕ) → x ≡ x' → word_at y'.arena x ≡ word_at y.arena x → word_at y'.arena x' ≡ word_at y.arena x'
  at_address x x' same e = subst (λ a. word_at y'.arena a ≡ word_at y.arena a) same e

  taken : (x count : ℕ) → TakenSpot setting w x count → TakenSpot setting w' x count
  taken x count k = record { number = k.number; late = k.late; there = k.there }

  taken_same : (x count : ℕ) → TakenSpot setting w x count → (k : ℕ) → k < 4 * count → word_at y'.arena (x + k) ≡ word_at y.arena (x + k)
  taken_same x count s k few =
      g.others s.number (record { address = x; words = count; tag = 0 }) (late_number setting.further s.number s.late) s.there (x + k) (omega arith) (omega arith)

  box_stands : (i : ℕ) (b : BoxPlace) → BoxWas w y.arena y'.arena i b → BoxStands setting w' z'.state y'.arena i b
  box_stands i (on_heap x) was =
      let old = t.boxes i (on_heap x) was in
      let same : word_at y'.arena x ≡ word_at y.arena x = at_address (x + 0) x (omega arith) (taken_same x 1 old.1 0 (omega arith)) in
      (record { word = old.0.word; of_value = old.0.of_value; stands = same ∙ old.0.stands }, taken x 1 old.1)
  box_stands i (on_stack x) was =
      let old = t.boxes i (on_stack x) was.0 in record { word = old.word; of_value = old.of_value; stands = was.1 ∙ old.stands }
  box_stands i gone was = tt

  later_gone : Later w w'
  later_gone = record {
    spots = λ p s e. e;
    boxes = g.kept;
    methods = λ i m e. e;
    exit_forms = g.forms_kept;
    none_new = λ i a e. (g.were i (on_stack a) e).0;
  }

  slot_same : (x : ℕ) (o : Option Value) → word_at y'.arena x ≡ word_at y.arena x → SlotAt w.places y.arena x o → SlotAt w.places y'.arena x o
  slot_same x None same h = same ∙ h
  slot_same x (Some v) same h = record { word = h.word; of_value = h.of_value; stands = same ∙ h.stands }

  literal_is : (i : ℕ) (l : LiteralRow) (word : ℕ) → LiteralIs setting w i l word → LiteralIs setting w' i l word
  literal_is i (row.Datum d) word h = h
  literal_is i (row.Class c) word h = h
  literal_is i (row.Function name) word h = h

  apart : BoxesApart w'
  apart = record {
    heap = λ i j a e f. t.boxes_apart.heap i j a (g.were i (on_heap a) e) (g.were j (on_heap a) f);
    stack = λ i j a e f. t.boxes_apart.stack i j a (g.were i (on_stack a) e).0 (g.were j (on_stack a) f).0;
  }

  method_stands : (a : ℕ) (called : Called) → MethodStands setting w y.arena a called → MethodStands setting w' y'.arena a called
  method_stands a called h =
      let same = taken_same a (2 + length called.arguments) h.spot in
      let first : word_at y'.arena a ≡ word_at y.arena a = at_address (a + 0) a (omega arith) (same 0 (omega arith)) in
      record {
        spot = taken a (2 + length called.arguments) h.spot;
        chain = h.chain;
        chain_word = first ∙ h.chain_word;
        chain_stands = h.chain_stands;
        takes = h.takes;
        count = same 4 (omega arith) ∙ h.count;
        arguments = λ i few.
            let old = h.arguments i few in
            let here : word_at y'.arena (a + 8 + 4 * i) ≡ word_at y.arena (a + 8 + 4 * i) = at_address (a + (8 + 4 * i)) (a + 8 + 4 * i) (omega arith) (same (8 + 4 * i) (omega arith)) in
            record { word = old.word; of_value = old.of_value; stands = here ∙ old.stands };
      }

  captured_is : (word : ℕ) (c : Captured) → CapturedIs w word c → CapturedIs w' word c
  captured_is word (of_value v) h = h
  captured_is word (of_box (Some i)) h = g.kept i word h
  captured_is word (of_box None) h = h
  captured_is word (of_exit (Some e)) h = h
  captured_is word (of_exit None) h = h
  captured_is word (of_method None) h = h
  captured_is word (of_method (Some called)) h = h

  captured_at : (x : ℕ) (cs : List Captured) → ((k : ℕ) → k < 4 * length cs → word_at y'.arena (x + k) ≡ word_at y.arena (x + k)) → CapturedAt w y.arena x cs → CapturedAt w' y'.arena x cs
  captured_at x [] same h = tt
  captured_at x (c ∷ cs) same h =
      let first : word_at y'.arena x ≡ word_at y.arena x = at_address (x + 0) x (omega arith) (same 0 (omega arith)) in (
        (h.0.0, first ∙ h.0.1, captured_is h.0.0 c h.0.2),
        captured_at (x + 4) cs (λ k few. at_address (x + (4 + k)) (x + 4 + k) (omega arith) (same (4 + k) (omega arith))) h.1,
      )

  function_stands : (i p : ℕ) (s : Spot) (o : Option (List Captured)) → spot_of w.places (of_object i) ≡ Some s → 2 ≤ s.words → FunctionStands setting w y.arena s p o → FunctionStands setting w' y'.arena s p o
  function_stands i p s (Some cs) there big h =
      let size = h.size in
      record {
        row = h.row;
        there = h.there;
        kinds = h.kinds;
        forms = h.forms;
        lead = h.lead;
        made_by = made_by_later later_gone cs h.forms h.made_by;
        size = h.size;
        number = g.objects i s there (s.address + 4) (omega arith) (omega arith) ∙ h.number;
        captured = captured_at (s.address + 8) cs (λ k few. g.objects i s there (s.address + 8 + k) (omega arith) (omega (arith, size, few))) h.captured;
      }
  function_stands i p s None there big h = record { row = h.row; there = h.there; number = g.objects i s there (s.address + 4) (omega arith) (omega (arith, big)) ∙ h.number }

  -- **all things stand**
  pub things_go_on : Things setting w' z' y'
  things_go_on = record {
    represents = represents_same setting.names (tables setting.program) w.places z.state z'.state y' refl refl refl refl g.represents;
    within_limit = limit setting.limit t.within_limit;
    control = t.control;
    further = λ i word e.
        let old = t.further i word e in
        let within = slice_get_within setting.further i word e in
        (old.0, g.others 2 (record { address = setting.further_at; words = length setting.further; tag = 0 }) (omega arith) old.0 (setting.further_at + 4 * i) (omega arith) (omega (arith, within)) ∙ old.1);
    serials = g.serials;
    globals = λ n has. slot_same _ _ (g.globals n has) (t.globals n has);
    dynamics = λ n has. slot_same _ _ (g.dynamics n has) (t.dynamics n has);
    literals = λ i l e. literal_is i l _ (t.literals i l e);
    symbols = t.symbols;
    laid_symbols = t.laid_symbols;
    fresh_symbols = fresh_from (λ i serial e. e) refl g.heap t.fresh_symbols;
    box_count = g.count ∙ t.box_count;
    boxes_apart = apart;
    boxes = λ i b e. box_stands i b (g.were i b e);
    methods = λ i a called e. method_stands a called (t.methods i a called e);
    exit_forms = g.form_count;
    functions = λ i p s e f. function_stands i p s _ f (t.represents.objects i (function p) s e f).words (t.functions i p s e f);
    captured = t.captured;
    generics = t.generics;
  }
    where
      limit : (l : Limit) → WithinLimit l z.state → WithinLimit l z'.state
      limit unlimited h = tt
      limit (words m) h = h
