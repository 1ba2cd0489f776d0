-- What words say goes on being said in a later world where the words of most spots stay: piece by piece.
use Rattle.std.proofs.Common.{◌≡◌, ℕ, ◌+◌, ◌*◌, ◌<◌, ◌≤◌, List, [], ◌∷◌, length, Option, Some, None, sym, ◌∙◌, subst, arith}
use Rattle.std.specs.Prelude.{slice_get}
use Rattle.std.proofs.lemmas.Option.{slice_get_within}
use Rattle.lang_meaning.specs.declared.program.LiteralRow.{LiteralRow}
use Rattle.lang_meaning.specs.declared.program.LiteralRow.TheVariants as row
use Rattle.lang_meaning.specs.InitialHeap.{class_value, function_value, literal_value}
use Rattle.lang_meaning.specs.Lookup.{text, under_text, value_at}
use Rattle.lang_meaning.specs.Objects.{Called, function}
use Rattle.lang_meaning.specs.State.{State}
use Rattle.lang_meaning.specs.Values.{Value, symbol, named}
use Rattle.flat_language.specs.FlatNodes.{tables}
use Rattle.flat_language.specs.FlatState.{Captured, of_value, of_box, of_exit, of_method, FlatState, under}
use Rattle.mid_code.specs.Arena.{word_at}
use Rattle.mid_code.specs.State.{MidState}
use Rattle.mid_arena.specs.Places.{Spot, Owner, of_object, of_other, spot_of, word_of}
use Rattle.mid_arena.specs.Standing.{ValueAt, SlotAt, SameWords}
use Rattle.back_lowering.specs.ControlWords.{control_address, control_words, variables_address, serials_address}
use Rattle.back_lowering.specs.Placement.{global_address, dynamic_address, literal_word, symbol_word}
use Rattle.back_relation.specs.Setting.{Setting, control_spot, spots_at_start}
use Rattle.back_relation.specs.Placed.{HasGlobal, HasDynamic, HasSymbol, IsVariableWord, IsPlaced}
use Rattle.back_relation.specs.Worlds.{World, BoxPlace, on_heap, on_stack, gone, Later}
use Rattle.back_relation.specs.StackWords.{HasWordAt}
use Rattle.back_relation.specs.Things.{Things, TakenSpot, CapturedIs, CapturedAt, BoxStands, MethodStands, FunctionStands, LiteralIs}
use Rattle.back_relation.proofs.Activations.{made_by_later}
use Rattle.back_relation.proofs.Worlds.{word_later}

module _ (setting : Setting) {w w' : World} {z : FlatState} {y : MidState} (y' : MidState) (t : Things setting w z y) (later : Later w w') (Stays : Owner → Type 0)
    (same : (p : Owner) (s : Spot) → Stays p → spot_of w.places p ≡ Some s → SameWords y.arena y'.arena s) where
  at_address : (x x' : ℕ) → x ≡ x' → word_at y'.arena x ≡ word_at y.arena x → word_at y'.arena x' ≡ word_at y.arena x'
  at_address x x' e k = subst (λ a. word_at y'.arena a ≡ word_at y.arena a) e k

  pub value_moves : (x : ℕ) (v : Value) → word_at y'.arena x ≡ word_at y.arena x → ValueAt w.places y.arena x v → ValueAt w'.places y'.arena x v
  value_moves x v e at = record { word = at.word; of_value = word_later later v at.word at.of_value; stands = e ∙ at.stands }

  pub slot_moves : (x : ℕ) (o : Option Value) → word_at y'.arena x ≡ word_at y.arena x → SlotAt w.places y.arena x o → SlotAt w'.places y'.arena x o
  slot_moves x None e h = e ∙ h
  slot_moves x (Some v) e h = value_moves x v e h

  -- ---- spots that code took

  pub taken_moves : (x count : ℕ) → TakenSpot setting w x count → TakenSpot setting w' x count
  taken_moves x count k = record { number = k.number; late = k.late; there = later.spots (of_other k.number) _ k.there }

  pub taken_same :
      (x count : ℕ) (k : TakenSpot setting w x count) → Stays (of_other k.number) → (i : ℕ) → i < 4 * count → word_at y'.arena (x + i) ≡ word_at y.arena (x + i)
  taken_same x count k stays i few =
      same (of_other k.number) (record { address = x; words = count; tag = 0 }) stays k.there (x + i) (omega arith) (omega arith)

  -- how the place of a variable keeps its word
  abbrev pub KeepsBox : BoxPlace → Type 0
  KeepsBox (on_heap x) = (k : TakenSpot setting w x 1) → Stays (of_other k.number)
  KeepsBox (on_stack x) = word_at y'.arena x ≡ word_at y.arena x
  KeepsBox gone = Unit {0}

  pub box_moves :
      (i : ℕ) (b : BoxPlace) (z' : State) → value_at (Some i) z' ≡ value_at (Some i) z.state → KeepsBox b → BoxStands setting w z.state y.arena i b
      → BoxStands setting w' z' y'.arena i b
  box_moves i (on_heap x) z' e keeps h = (
    subst (λ v. ValueAt w'.places y'.arena x v) (sym e)
        (value_moves x (value_at (Some i) z.state) (at_address (x + 0) x (omega arith) (taken_same x 1 h.1 (keeps h.1) 0 (omega arith))) h.0),
    taken_moves x 1 h.1,
  )
  box_moves i (on_stack x) z' e keeps h = subst (λ v. ValueAt w'.places y'.arena x v) (sym e) (value_moves x (value_at (Some i) z.state) keeps h)
  box_moves i gone z' e keeps h = tt

  pub method_moves :
      (a : ℕ) (called : Called) → ((k : ℕ) → spots_at_start setting.further ≤ k → spot_of w.places (of_other k) ≡ Some (record { address = a; words = 2 + length called.arguments; tag = 0 }) → Stays (of_other k))
      → MethodStands setting w y.arena a called → MethodStands setting w' y'.arena a called
  method_moves a called stays h =
      let here = taken_same a (2 + length called.arguments) h.spot (stays h.spot.number h.spot.late h.spot.there) in
      let first : word_at y'.arena a ≡ word_at y.arena a = at_address (a + 0) a (omega arith) (here 0 (omega arith)) in
      record {
        spot = taken_moves a (2 + length called.arguments) h.spot;
        chain = h.chain;
        chain_word = first ∙ h.chain_word;
        chain_stands = h.chain_stands;
        takes = h.takes;
        count = here 4 (omega arith) ∙ h.count;
        arguments = λ i few.
            value_moves (a + 8 + 4 * i) _ (at_address (a + (8 + 4 * i)) (a + 8 + 4 * i) (omega arith) (here (8 + 4 * i) (omega arith))) (h.arguments i few);
      }

  -- ---- functions

  pub captured_moves : (word : ℕ) (c : Captured) → CapturedIs w word c → CapturedIs w' word c
  captured_moves word (of_value v) h = word_later later v word h
  captured_moves word (of_box (Some i)) h = later.boxes i word h
  captured_moves word (of_box None) h = h
  captured_moves word (of_exit (Some e)) h = h
  captured_moves word (of_exit None) h = h
  captured_moves word (of_method None) h = h
  captured_moves word (of_method (Some called)) h = (h.0, (h.1.0, later.methods h.1.0 (word, called) h.1.1))

  captured_at :
      (x : ℕ) (cs : List Captured) → ((k : ℕ) → k < 4 * length cs → word_at y'.arena (x + k) ≡ word_at y.arena (x + k)) → CapturedAt w y.arena x cs
      → CapturedAt w' y'.arena x cs
  captured_at x [] e h = tt
  captured_at x (c ∷ cs) e h =
      let first : word_at y'.arena x ≡ word_at y.arena x = at_address (x + 0) x (omega arith) (e 0 (omega arith)) in (
        (h.0.0, first ∙ h.0.1, captured_moves h.0.0 c h.0.2),
        captured_at (x + 4) cs (λ k few. at_address (x + (4 + k)) (x + 4 + k) (omega arith) (e (4 + k) (omega arith))) h.1,
      )

  pub function_moves :
      (i p : ℕ) (s : Spot) (o : Option (List Captured)) → Stays (of_object i) → spot_of w.places (of_object i) ≡ Some s → 2 ≤ s.words
      → FunctionStands setting w y.arena s p o → FunctionStands setting w' y'.arena s p o
  function_moves i p s (Some cs) stays there big h =
      let size = h.size in
      record {
        row = h.row;
        there = h.there;
        kinds = h.kinds;
        forms = h.forms;
        lead = h.lead;
        made_by = made_by_later later cs h.forms h.made_by;
        size = h.size;
        number = same (of_object i) s stays there (s.address + 4) (omega arith) (omega arith) ∙ h.number;
        captured = captured_at (s.address + 8) cs (λ k few. same (of_object i) s stays there (s.address + 8 + k) (omega arith) (omega (arith, size, few))) h.captured;
      }
  function_moves i p s None stays there big h =
      record { row = h.row; there = h.there; number = same (of_object i) s stays there (s.address + 4) (omega arith) (omega (arith, big)) ∙ h.number }

  -- a function that was there
  pub functions_move :
      ((i : ℕ) → Stays (of_object i)) → (i p : ℕ) (s : Spot) → slice_get z.state.store i ≡ Some (function p) → spot_of w.places (of_object i) ≡ Some s
      → FunctionStands setting w' y'.arena s p (under i z.captured)
  functions_move stays i p s e f = function_moves i p s (under i z.captured) (stays i) f (t.represents.objects i (function p) s e f).words (t.functions i p s e f)

  -- ---- literals, symbols, and words behind all objects

  literal_is : (i : ℕ) (l : LiteralRow) (word : ℕ) → LiteralIs setting w i l word → LiteralIs setting w' i l word
  literal_is i (row.Datum d) word h = word_later later (literal_value setting.names (tables setting.program) i d) word h
  literal_is i (row.Class c) word h = word_later later (class_value setting.names (tables setting.program) c) word h
  literal_is i (row.Function name) word h =
      λ f e. word_later later (function_value setting.names (tables setting.program) (text setting.names name.0)) word (h f e)

  pub literals_move : (i : ℕ) (l : LiteralRow) → slice_get setting.program.literals i ≡ Some l → LiteralIs setting w' i l (literal_word setting.at i)
  literals_move i l e = literal_is i l (literal_word setting.at i) (t.literals i l e)

  pub symbols_move : (n : ℕ) → HasSymbol setting n → word_of w'.places (symbol (named (text setting.names n))) ≡ Some (symbol_word setting.at n)
  symbols_move n has = word_later later (symbol (named (text setting.names n))) (symbol_word setting.at n) (t.symbols n has)

  pub further_moves :
      (i word : ℕ) → Stays (of_other 2) → slice_get setting.further i ≡ Some word
      → spot_of w'.places (of_other 2) ≡ Some (record { address = setting.further_at; words = length setting.further; tag = 0 })
      × (word_at y'.arena (setting.further_at + 4 * i) ≡ Some word)
  further_moves i word stays e =
      let old = t.further i word e in
      let within = slice_get_within setting.further i word e in (
        later.spots (of_other 2) _ old.0,
        same (of_other 2) (record { address = setting.further_at; words = length setting.further; tag = 0 }) stays old.0 (setting.further_at + 4 * i) (omega arith)
            (omega (arith, within)) ∙ old.1,
      )

  pub control_moves : spot_of w'.places (of_other 1) ≡ Some (control_spot setting)
  control_moves = later.spots (of_other 1) (control_spot setting) t.control

  -- ---- control words and words of variables

  module _ (stays : Stays (of_other 1)) where
    pub control_same :
        (x : ℕ) → control_address ≤ x → x < control_address + 4 * (control_words + setting.variable_words) → word_at y'.arena x ≡ word_at y.arena x
    control_same x low high = same (of_other 1) (control_spot setting) stays t.control x low high

    pub word_moves :
        (x word : ℕ) → control_address ≤ x → x < control_address + 4 * control_words → HasWordAt y x word → HasWordAt y' x word
    word_moves x word low high h = control_same x low (omega (arith, high)) ∙ h

    pub serials_move : (drawn : ℕ) → HasWordAt y serials_address drawn → HasWordAt y' serials_address drawn
    serials_move drawn h = word_moves serials_address drawn (omega arith) (omega arith) h

    variable_same : (x : ℕ) → variables_address ≤ x → IsVariableWord setting x → word_at y'.arena x ≡ word_at y.arena x
    variable_same x low there = control_same x (omega (arith, low)) there.below

    pub globals_move :
        IsPlaced setting → (n : ℕ) → HasGlobal setting n → SlotAt w'.places y'.arena (global_address setting.at n) (under_text (text setting.names n) z.state.globals)
    globals_move placed n has = slot_moves _ _ (variable_same (global_address setting.at n) has (placed.globals.there n has)) (t.globals n has)

    pub dynamics_move :
        IsPlaced setting → (n : ℕ) → HasDynamic setting n
        → SlotAt w'.places y'.arena (dynamic_address setting.at n) (under_text (text setting.names n) z.state.dynamics)
    dynamics_move placed n has = slot_moves _ _ (variable_same (dynamic_address setting.at n) has (placed.dynamics.there n has)) (t.dynamics n has)
