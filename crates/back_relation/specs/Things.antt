-- **What words say at any moment**, whatever is around: the state of the meaning, the words that code has for itself, and the functions.
use Rattle.std.specs.Prelude.{◌≡◌, ◌⊎◌, ⊤, ℕ, ◌+◌, ◌*◌, ◌^◌, ◌<◌, ◌≤◌, List, [], ◌∷◌, Option, Some, None, length, slice_get}
use Rattle.base.specs.declared.place.Place.{Place}
use Rattle.lang_meaning.specs.declared.scope.ExitForm.{ExitForm}
use Rattle.lang_meaning.specs.declared.program.FunctionRow.{FunctionRow}
use Rattle.lang_meaning.specs.declared.program.GenericRow.{GenericRow}
use Rattle.lang_meaning.specs.declared.program.LiteralRow.{LiteralRow}
use Rattle.lang_meaning.specs.declared.program.LiteralRow.TheVariants as row
use Rattle.lang_meaning.specs.InitialHeap.{class_value, function_value, literal_value}
use Rattle.lang_meaning.specs.Literals.{function_row}
use Rattle.lang_meaning.specs.Lookup.{text, under_text, value_at}
use Rattle.lang_meaning.specs.Meaning.{place_of_site}
use Rattle.lang_meaning.specs.Objects.{Object, Called, function, generic_function, fresh_symbol}
use Rattle.lang_meaning.specs.State.{State, Limit, words, unlimited, no_place}
use Rattle.lang_meaning.specs.Values.{symbol, named}
use Rattle.flat_language.specs.declared.place.CapturedKind.{CapturedKind}
use Rattle.flat_language.specs.declared.place.CapturedKind.TheVariants as kind
use Rattle.flat_language.specs.declared.program.FlatProcedure.{FlatProcedure}
use Rattle.flat_language.specs.FlatNodes.{tables}
use Rattle.flat_language.specs.FlatState.{Captured, of_value, of_box, of_exit, of_method, FlatState, under}
use Rattle.mid_code.specs.Arena.{Arena, word_at}
use Rattle.mid_code.specs.State.{MidState}
use Rattle.mid_arena.specs.Places.{Spot, of_object, of_other, spot_of, word_of}
use Rattle.mid_arena.specs.Represents.{Represents}
use Rattle.mid_arena.specs.Standing.{ValueAt, ValuesAt, SlotAt}
use Rattle.back_lowering.specs.ControlWords.{serials_address}
use Rattle.back_lowering.specs.Placement.{entry_of_lambda, literal_word, symbol_word, global_address, dynamic_address}
use Rattle.back_relation.specs.Setting.{Setting, control_spot, spots_at_start}
use Rattle.back_relation.specs.Chains.{ChainAt, ChainTakes}
use Rattle.back_relation.specs.Placed.{HasGlobal, HasDynamic, HasSymbol}
use Rattle.back_relation.specs.Worlds.{World, BoxPlace, on_heap, on_stack, gone, BoxIs, MethodIs, BoxesApart}
use Rattle.back_relation.specs.StackWords.{HasWordAt}

-- what was charged is within the words that there are
abbrev pub WithinLimit : Limit → State → Type 0
WithinLimit unlimited z = ⊤
WithinLimit (words m) z = z.heap + z.stack ≤ m

-- Fresh symbols: the serial of each that is stored is below the number of those that were made, and each of these took two words of the heap.
pub record FreshCounted (store : List Object) (made heap_to : ℕ) : Type 0 where
  pub below : (i serial : ℕ) → slice_get store i ≡ Some (fresh_symbol serial) → serial < made
  pub taken : 8 * made ≤ heap_to

-- what was captured is of a kind
abbrev pub IsOfKind : CapturedKind → Captured → Type 0
IsOfKind kind.Value (of_value v) = ⊤
IsOfKind kind.Boxed (of_box o) = ⊤
IsOfKind kind.Exit (of_exit o) = ⊤
IsOfKind kind.Method (of_method o) = ⊤
IsOfKind k c = ⊥

abbrev pub AreOfKinds : List CapturedKind → List Captured → Type 0
AreOfKinds [] [] = ⊤
AreOfKinds [] (c ∷ cs) = ⊥
AreOfKinds (k ∷ ks) [] = ⊥
AreOfKinds (k ∷ ks) (c ∷ cs) = IsOfKind k c × AreOfKinds ks cs

-- exits that were captured were made by these forms
abbrev pub MadeBy : World → Captured → Option ExitForm → Type 0
MadeBy w (of_exit (Some e)) form = slice_get w.exit_forms e ≡ Some form
MadeBy w c form = ⊤

abbrev pub AreMadeBy : World → List Captured → List (Option ExitForm) → Type 0
AreMadeBy w [] [] = ⊤
AreMadeBy w [] (f ∷ fs) = ⊥
AreMadeBy w (c ∷ cs) [] = ⊥
AreMadeBy w (c ∷ cs) (f ∷ fs) = MadeBy w c f × AreMadeBy w cs fs

-- a word for what was captured: a value's, a box's address, an exit's serial number, the address of the words of a method's call, or 0
abbrev pub CapturedIs : World → (word : ℕ) → Captured → Type 0
CapturedIs w word (of_value v) = word_of w.places v ≡ Some word
CapturedIs w word (of_box (Some i)) = BoxIs w i word
CapturedIs w word (of_box None) = ⊥
CapturedIs w word (of_exit (Some e)) = word ≡ e
CapturedIs w word (of_exit None) = ⊥
CapturedIs w word (of_method None) = word ≡ 0
CapturedIs w word (of_method (Some called)) = (1 ≤ word) × MethodIs w word called

-- what was captured stands behind an address, one word after another
abbrev pub CapturedAt : World → Arena → (address : ℕ) → List Captured → Type 0
CapturedAt w a x [] = ⊤
CapturedAt w a x (c ∷ cs) = ((word : ℕ) × (word_at a x ≡ Some word) × CapturedIs w word c) × CapturedAt w a (x + 4) cs

module _ (setting : Setting) where
  -- a spot that code took for itself in the run
  pub record TakenSpot (w : World) (address words : ℕ) : Type 0 where
    pub number : ℕ
    pub late : spots_at_start setting.further ≤ number
    pub there : spot_of w.places (of_other number) ≡ Some (record { address = address; words = words; tag = 0 })

  -- the word of a variable
  abbrev pub BoxStands : World → State → Arena → ℕ → BoxPlace → Type 0
  BoxStands w z a i (on_heap x) = ValueAt w.places a x (value_at (Some i) z) × TakenSpot w x 1
  BoxStands w z a i (on_stack x) = ValueAt w.places a x (value_at (Some i) z)
  BoxStands w z a i gone = ⊤

  -- the words of a method's call that is kept: where the rest of its chain is, how many arguments there are, and the arguments
  pub record MethodStands (w : World) (a : Arena) (address : ℕ) (called : Called) : Type 0 where
    pub spot : TakenSpot w address (2 + length called.arguments)
    pub chain : ℕ
    pub chain_word : word_at a address ≡ Some chain
    pub chain_stands : ChainAt setting chain called.rest
    pub takes : ChainTakes setting (length called.arguments) called.rest
    pub count : word_at a (address + 4) ≡ Some (length called.arguments)
    pub arguments : ValuesAt w.places a (address + 8) called.arguments

  -- the procedure of a function that a form made, and what it captured; or the procedure of a definition
  pub record MadeFunction (w : World) (a : Arena) (spot : Spot) (procedure : ℕ) (cs : List Captured) : Type 0 where
    pub row : FlatProcedure
    pub there : slice_get setting.program.lambdas procedure ≡ Some row
    pub kinds : AreOfKinds row.captured cs
    pub forms : List (Option ExitForm)
    pub lead : slice_get setting.leads.functions procedure ≡ Some forms
    pub made_by : AreMadeBy w cs forms
    pub size : spot.words ≡ 2 + length cs
    pub number : word_at a (spot.address + 4) ≡ Some (entry_of_lambda setting.at procedure)
    pub captured : CapturedAt w a (spot.address + 8) cs

  pub record DefinedFunction (a : Arena) (spot : Spot) (procedure : ℕ) : Type 0 where
    pub row : FlatProcedure
    pub there : slice_get setting.program.procedures procedure ≡ Some row
    pub number : word_at a (spot.address + 4) ≡ Some procedure

  abbrev pub FunctionStands : World → Arena → Spot → (procedure : ℕ) → Option (List Captured) → Type 0
  FunctionStands w a spot procedure (Some cs) = MadeFunction w a spot procedure cs
  FunctionStands w a spot procedure None = DefinedFunction a spot procedure

  -- the word of a literal
  abbrev pub LiteralIs : World → ℕ → LiteralRow → ℕ → Type 0
  LiteralIs w i (row.Datum d) word = word_of w.places (literal_value setting.names (tables setting.program) i d) ≡ Some word
  LiteralIs w i (row.Class c) word = word_of w.places (class_value setting.names (tables setting.program) c) ≡ Some word
  LiteralIs w i (row.Function name) word =
      (f : FunctionRow) → function_row setting.names setting.program.functions (text setting.names name.0) ≡ Some f
      → word_of w.places (function_value setting.names (tables setting.program) (text setting.names name.0)) ≡ Some word

  -- a site by its number
  abbrev pub SiteIs : ℕ → Place → Type 0
  SiteIs n place = ((n ≡ 0) × (place ≡ no_place)) ⊎ ((1 ≤ n) × (place_of_site setting.program.sites n ≡ place))

  pub record Things (w : World) (z : FlatState) (y : MidState) : Type 0 where
    pub represents : Represents setting.names (tables setting.program) w.places z.state y
    pub within_limit : WithinLimit setting.limit z.state
    -- the words that code has for itself from the start
    pub control : spot_of w.places (of_other 1) ≡ Some (control_spot setting)
    pub further :
        (i word : ℕ) → slice_get setting.further i ≡ Some word
        → spot_of w.places (of_other 2) ≡ Some (record { address = setting.further_at; words = length setting.further; tag = 0 })
        × (word_at y.arena (setting.further_at + 4 * i) ≡ Some word)
    pub serials : (drawn : ℕ) × HasWordAt y serials_address drawn × (drawn + 1 ≡ z.state.exits) × (drawn < 2 ^ 32)
    pub globals :
        (n : ℕ) → HasGlobal setting n → SlotAt w.places y.arena (global_address setting.at n) (under_text (text setting.names n) z.state.globals)
    pub dynamics :
        (n : ℕ) → HasDynamic setting n → SlotAt w.places y.arena (dynamic_address setting.at n) (under_text (text setting.names n) z.state.dynamics)
    -- the words of literals and symbols
    pub literals : (i : ℕ) (l : LiteralRow) → slice_get setting.program.literals i ≡ Some l → LiteralIs w i l (literal_word setting.at i)
    pub symbols : (n : ℕ) → HasSymbol setting n → word_of w.places (symbol (named (text setting.names n))) ≡ Some (symbol_word setting.at n)
    -- the symbols that have words are those that were laid before the run; those that the run makes are objects
    pub laid_symbols : w.places.symbols ≡ setting.symbols
    pub fresh_symbols : FreshCounted z.state.store z.state.symbols y.arena.heap_to
    -- boxes, and calls of methods
    pub box_count : length w.boxes ≡ length z.state.variables
    pub boxes_apart : BoxesApart w
    pub boxes : (i : ℕ) (b : BoxPlace) → slice_get w.boxes i ≡ Some b → BoxStands w z.state y.arena i b
    pub methods : (i a : ℕ) (called : Called) → slice_get w.methods i ≡ Some (a, called) → MethodStands w y.arena a called
    pub exit_forms : length w.exit_forms ≡ z.state.exits
    -- functions, and generic functions
    pub functions :
        (i p : ℕ) (s : Spot) → slice_get z.state.store i ≡ Some (function p) → spot_of w.places (of_object i) ≡ Some s
        → FunctionStands w y.arena s p (under i z.captured)
    -- captured parts stand under the numbers of functions, which have spots
    pub captured :
        (i : ℕ) (cs : List Captured) → under i z.captured ≡ Some cs
        → (p : ℕ) × (slice_get z.state.store i ≡ Some (function p)) × (s : Spot) × (spot_of w.places (of_object i) ≡ Some s)
    pub generics :
        (i g : ℕ) → slice_get z.state.store i ≡ Some (generic_function g)
        → (row : GenericRow) × (slice_get setting.program.generics g ≡ Some row)
