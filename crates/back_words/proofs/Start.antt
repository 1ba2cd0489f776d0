-- **A state of middle code that begins with the words of a program is one where the program begins.**
use Rattle.std.proofs.Common.{◌≡◌, ℕ, zero, suc, ◌+◌, ◌*◌, ◌<◌, ◌≤◌, Bool, true, false, List, [], ◌∷◌, ◌++◌, length, map, Option, Some, None, refl, sym, ◌∙◌, ap, subst, length-append, lit<, arith}
use Rattle.std.specs.Prelude.{◌≢◌, replicate, slice_get, slice_index_or, nat_lt, if◌then◌else◌}
use Rattle.std.specs.List.{range_with_len}
use Rattle.std.specs.Option.{unwrap_or}
use Rattle.std.specs.Str.{bytes_eq}
use Rattle.std.proofs.lemmas.Bool.Decides.{nat_tests}
use Rattle.std.proofs.lemmas.List.{length-replicate}
use Rattle.std.proofs.lemmas.List.FromFn.{get_or-map-range_with_len}
use Rattle.std.proofs.lemmas.Option.{slice_get_within, get_or_from_slice_get}
use Rattle.base.specs.AllOf.{AllOf, all_at}
use Rattle.base.specs.Names.{IsTable, slice_get-front}
use Rattle.base.specs.declared.datum.Symbol.TheVariants.{Named}
use Rattle.lang_meaning.specs.declared.program.FunctionRow.{FunctionRow}
use Rattle.lang_meaning.specs.declared.program.GenericRow.{GenericRow}
use Rattle.lang_meaning.specs.declared.program.LiteralRow.{LiteralRow}
use Rattle.lang_meaning.specs.declared.program.LiteralRow.TheVariants as row
use Rattle.lang_meaning.specs.InitialHeap.{function_value, objects_at_start}
use Rattle.lang_meaning.specs.Literals.{function_row}
use Rattle.lang_meaning.specs.Lookup.{text}
use Rattle.lang_meaning.specs.Objects.{function, generic_function, fresh_symbol}
use Rattle.lang_meaning.specs.State.{Limit, words, unlimited, first_state}
use Rattle.lang_meaning.specs.Values.{symbol, named}
use Rattle.flat_language.specs.declared.program.FlatProcedure.{FlatProcedure}
use Rattle.flat_language.specs.FlatNodes.{tables}
use Rattle.mid_code.specs.Arena.{word_at}
use Rattle.mid_code.specs.State.{MidState}
use Rattle.mid_arena.specs.FixedWords.{low_address}
use Rattle.mid_arena.specs.Layouts.{AreBytes}
use Rattle.mid_arena.specs.Places.{Spot, of_object, of_other, spot_of, word_of}
use Rattle.mid_arena.specs.Standing.{SlotAt}
use Rattle.mid_arena.specs.Tags.{nil_word, unbound_word}
use Rattle.mid_arena.proofs.Arguments.{item_there}
use Rattle.mid_arena.proofs.Lists.{replicated}
use Rattle.mid_start.specs.declared.static_data.StaticData.{StaticData}
use Rattle.mid_start.specs.Symbols.{word_of_symbol}
use Rattle.mid_start.specs.StaticData.{spot_for, own_spots, word_of_text, OwnWordsAt, BeginsWithData}
use Rattle.mid_start.proofs.Law.{law_static_data, same_words}
use Rattle.mid_start.proofs.Lists.{item_behind}
use Rattle.mid_start.proofs.MadeSymbols.{found_word}
use Rattle.mid_start.proofs.OwnSpots.{low_found, further_found}
use Rattle.back_lowering.specs.ControlWords.{control_words, variables_address}
use Rattle.back_lowering.specs.Placement.{literal_word, symbol_word, global_address, dynamic_address}
use Rattle.back_relation.specs.Setting.{Setting, control_spot}
use Rattle.back_relation.specs.Around.{RoomFor}
use Rattle.back_relation.specs.Placed.{HasGlobal, HasDynamic, HasSymbol}
use Rattle.back_relation.specs.StackWords.{HasWordAt}
use Rattle.back_relation.specs.Things.{WithinLimit, DefinedFunction, LiteralIs, Things}
use Rattle.back_claims.specs.Mains.{MainBegins}
use Rattle.back_claims.specs.Program.{start_words, at_start, ProgramBegins}
use Rattle.back_words.specs.Variables.{number_among, global_names, dynamic_names, variable_count, low_words}
use Rattle.back_words.specs.Words.{symbol_among}
use Rattle.back_words.specs.Start.{laid_symbols, laid_literal, literals_from, StartsWith, world_at_start}
use Rattle.back_words.specs.Asked.{LiteralFound, RowsAsked}
use Rattle.back_words.specs.Laws.{LawOfBeginnings}
use Rattle.back_words.proofs.Law.{symbol_is, global_word, dynamic_word}
use Rattle.back_words.proofs.Objects.{ObjectFits, start_fits}
use Rattle.back_words.proofs.Variables.{past}

-- ---- words of literals

literal_at : (names : List (List ℕ)) (functions : List FunctionRow) (laid : StaticData) (ls : List LiteralRow) (n i : ℕ) (l : LiteralRow)
    → slice_get ls i ≡ Some l → slice_index_or (literals_from names functions laid ls n) i nil_word ≡ laid_literal names functions laid (n + i) l
literal_at names functions laid [] n i l e = absurd (cc e)
literal_at names functions laid (k ∷ ls) n zero l e =
    let same : k ≡ l = cc e in
    let place : n ≡ n + 0 = omega arith in
    ap (laid_literal names functions laid n) same ∙ ap (λ m. laid_literal names functions laid m l) place
literal_at names functions laid (k ∷ ls) n (suc i) l e =
    let place : n + 1 + i ≡ n + suc i = omega arith in
    literal_at names functions laid ls (n + 1) i l e ∙ ap (λ m. laid_literal names functions laid m l) place

-- a function that has a row has a word
row_word : (names : List (List ℕ)) (fs : List FunctionRow) (ws : List ℕ) (name : List ℕ) (f : FunctionRow) → length ws ≡ length fs
    → function_row names fs name ≡ Some f → (w : ℕ) × (word_of_text names fs ws name ≡ Some w)
row_word names [] ws name f many e = absurd (cc e)
row_word names (g ∷ fs) [] name f many e = absurd (omega arith)
row_word names (g ∷ fs) (w ∷ ws) name f many e =
    by (bytes_eq name (text names g.name.0)) e (λ later. row_word names fs ws name f (omega arith) later)
  where
    by : (b : Bool) → (if b then Some g else function_row names fs name) ≡ Some f
        → (function_row names fs name ≡ Some f → (w : ℕ) × (word_of_text names fs ws name ≡ Some w))
        → (v : ℕ) × ((if b then Some w else word_of_text names fs ws name) ≡ Some v)
    by true e more = (w, refl)
    by false e more = more e

-- ---- words of symbols

symbol_there : (o : Option ℕ) (w : ℕ) → unwrap_or o nil_word ≡ w → w ≢ nil_word → o ≡ Some w
symbol_there None w e other = absurd (other (sym e))
symbol_there (Some x) w e other = ap (λ n. Some n) e

module _
    (setting : Setting) (laid : StaticData) (s : StartsWith setting laid) (table : IsTable setting.names) (rows : RowsAsked setting.program) (input : List ℕ)
    (y : MidState) (bytes : AreBytes input) (begins : BeginsWithData laid.arena input y)
  where
    abbrev low : List ℕ
    low = low_words setting.names setting.program

    abbrev globals_count : ℕ
    globals_count = length (global_names setting.names setting.program)

    abbrev dynamics_count : ℕ
    dynamics_count = length (dynamic_names setting.names setting.program)

    abbrev literals : List ℕ
    literals = literals_from setting.names setting.program.functions laid setting.program.literals 0

    abbrev symbols : List ℕ
    symbols = laid_symbols setting.names laid.arena.symbols

    low_count : length low ≡ control_words + setting.variable_words
    low_count =
        omega (
          arith,
          length-append (replicate {A = ℕ} control_words 0) (replicate {A = ℕ} (variable_count setting.names setting.program) unbound_word),
          length-replicate {A = ℕ} control_words 0,
          length-replicate {A = ℕ} (variable_count setting.names setting.program) unbound_word,
          s.words.variables,
        )

    own : OwnWordsAt low setting.further s.start.further_at y.arena
    own = (law_static_data setting.names (tables setting.program) low setting.further laid input y rows.built_in s.start bytes begins).1

    -- the control words are 0
    control : (i : ℕ) → i < control_words → HasWordAt y (low_address + 4 * i) 0
    control i h =
        own.low_words i 0
        (slice_get-front (replicate {A = ℕ} control_words 0) (replicate {A = ℕ} (variable_count setting.names setting.program) unbound_word) i 0 (replicated control_words i 0 h))

    -- and no variable has a value
    unbound : (i : ℕ) → i < variable_count setting.names setting.program → HasWordAt y (variables_address + 4 * i) unbound_word
    unbound i h =
        let place : variables_address + 4 * i ≡ low_address + 4 * (9 + i) = omega arith in
        let nine : 9 + i ≡ length (replicate {A = ℕ} control_words 0) + i = omega (arith, length-replicate {A = ℕ} control_words 0) in
        ap (word_at y.arena) place
        ∙ own.low_words (9 + i) unbound_word
        (ap (slice_get low) nine
        ∙ item_behind (replicate {A = ℕ} control_words 0) (replicate {A = ℕ} (variable_count setting.names setting.program) unbound_word) i
        ∙ replicated (variable_count setting.names setting.program) i unbound_word h)

    global_there : (n : ℕ) → HasGlobal setting n → HasWordAt y (global_address setting.at n) unbound_word
    global_there n h =
        let word = global_word setting literals symbols s.words n h in
        ap (word_at y.arena) word.address_is
        ∙ unbound (number_among (text setting.names) (global_names setting.names setting.program) n) (omega (arith, word.below))

    dynamic_there : (n : ℕ) → HasDynamic setting n → HasWordAt y (dynamic_address setting.at n) unbound_word
    dynamic_there n h =
        let word = dynamic_word setting literals symbols s.words n h in
        let k : ℕ = number_among (text setting.names) (dynamic_names setting.names setting.program) n in
        let place : dynamic_address setting.at n ≡ variables_address + 4 * (globals_count + k) = omega (arith, word.address_is) in
        ap (word_at y.arena) place ∙ unbound (globals_count + k) (omega (arith, word.below))

    -- spots
    one_spot : (n : ℕ) → 1 ≤ n → length (spot_for low_address n) ≡ 1
    one_spot zero h = absurd (omega arith)
    one_spot (suc n) h = refl

    control_there : spot_of s.start.places (of_other 1) ≡ Some (control_spot setting)
    control_there =
        ap (λ ss. slice_get ss 1) s.start.others
        ∙ low_found (length low) (spot_for s.start.further_at (length setting.further)) (omega (arith, low_count))
        ∙ ap (λ n. Some (record { address = low_address; words = n; tag = 0 })) low_count

    further_there : (i word : ℕ) → slice_get setting.further i ≡ Some word
        → (spot_of s.start.places (of_other 2) ≡ Some (record { address = setting.further_at; words = length setting.further; tag = 0 }))
        × (word_at y.arena (setting.further_at + 4 * i) ≡ Some word)
    further_there i word e =
        let within = slice_get_within setting.further i word e in
        let second : 2 ≡ suc (length (spot_for low_address (length low))) = omega (arith, one_spot (length low) (omega (arith, low_count))) in (
          ap (λ ss. slice_get ss 2) s.start.others
              ∙ ap (slice_get (own_spots low setting.further s.start.further_at)) second
              ∙ further_found (length low) s.start.further_at (length setting.further) (omega arith)
              ∙ ap (λ a. Some (record { address = a; words = length setting.further; tag = 0 })) (sym s.at),
          ap (λ a. word_at y.arena (a + 4 * i)) s.at ∙ own.further_words i word e,
        )

    -- literals
    literal_is : (i : ℕ) (l : LiteralRow) → slice_get setting.program.literals i ≡ Some l
        → literal_word setting.at i ≡ laid_literal setting.names setting.program.functions laid i l
    literal_is i l e =
        let place : 0 + i ≡ i = omega arith in
        ap (λ p. literal_word p i) s.words.placement
        ∙ literal_at setting.names setting.program.functions laid setting.program.literals 0 i l e
        ∙ ap (λ n. laid_literal setting.names setting.program.functions laid n l) place

    laid_is : (i : ℕ) (l : LiteralRow) → slice_get setting.program.literals i ≡ Some l → LiteralFound setting.program l
        → LiteralIs setting (world_at_start s.start.places) i l (laid_literal setting.names setting.program.functions laid i l)
    laid_is i (row.Datum d) e found =
        let there = item_there laid.literals i (omega (arith, slice_get_within setting.program.literals i (row.Datum d) e, s.start.literal_count)) in
        s.start.literal_words i there.0 d e there.1 ∙ ap (λ n. Some n) (sym (get_or_from_slice_get laid.literals i there.0 nil_word there.1))
    laid_is i (row.Class c) e found =
        let there = item_there laid.classes c (omega (arith, found, s.start.class_count)) in
        s.start.class_words c there.0 there.1 ∙ ap (λ n. Some n) (sym (get_or_from_slice_get laid.classes c there.0 nil_word there.1))
    laid_is i (row.Function name) e found = λ f h.
        let there = row_word setting.names setting.program.functions laid.functions (text setting.names name.0) f s.start.function_count h in
        s.start.function_words (text setting.names name.0) there.0 there.1 ∙ ap (λ o. Some (unwrap_or o nil_word)) (sym there.1)

    -- symbols
    symbol_stands : (n : ℕ) → HasSymbol setting n
        → word_of s.start.places (symbol (named (text setting.names n))) ≡ Some (symbol_word setting.at n)
    symbol_stands n h = by (nat_lt n (length setting.names)) refl
      where
        word_for : ℕ → ℕ
        word_for m = unwrap_or (word_of_symbol (Named (record { 0 = m })) laid.arena.symbols) nil_word

        by : (b : Bool) → nat_lt n (length setting.names) ≡ b → word_of s.start.places (symbol (named (text setting.names n))) ≡ Some (symbol_word setting.at n)
        by true e =
            let below : n < length setting.names = grind (arith, nat_tests) in
            let word : symbol_among symbols n ≡ word_for n = get_or-map-range_with_len word_for 0 (length setting.names) n n nil_word below (omega arith) in
            found_word setting.names table (Named (record { 0 = n })) below laid.arena.symbols s.start.places.symbols s.start.stands.listed
            ∙ symbol_there (word_of_symbol (Named (record { 0 = n })) laid.arena.symbols) (symbol_word setting.at n)
            (sym word ∙ symbol_is setting literals symbols s.words n) h
        by false e =
            let beyond : length setting.names ≤ n = grind (arith, nat_tests) in
            let none : symbol_among symbols n ≡ nil_word = past word_for 0 (length setting.names) n nil_word beyond in
            absurd (h (sym (symbol_is setting literals symbols s.words n) ∙ none))

    -- functions
    function_there : (i p : ℕ) (spot : Spot) → slice_get (objects_at_start setting.names (tables setting.program)) i ≡ Some (function p)
        → spot_of s.start.places (of_object i) ≡ Some spot → DefinedFunction setting y.arena spot p
    function_there i p spot there found =
        let fits : ObjectFits setting.program (function p) =
        all_at (ObjectFits setting.program) (objects_at_start setting.names (tables setting.program)) i (function p) (start_fits setting.program rows setting.names) there in
        let row : (q : FlatProcedure) × (slice_get setting.program.procedures p ≡ Some q) = item_there setting.program.procedures p fits in
        let number = s.start.numbered.each i p spot there found in
        record {
          row = row.0;
          there = row.1;
          number =
              same_words laid.arena input y s.start.first begins spot (s.start.stands.spots (of_object i) spot found) (spot.address + 4) (omega arith)
              (omega (arith, number.size))
              ∙ number.number;
        }

    generic_there : (i g : ℕ) → slice_get (objects_at_start setting.names (tables setting.program)) i ≡ Some (generic_function g)
        → (row : GenericRow) × (slice_get setting.program.generics g ≡ Some row)
    generic_there i g there =
        item_there setting.program.generics g
        (all_at (ObjectFits setting.program) (objects_at_start setting.names (tables setting.program)) i (generic_function g) (start_fits setting.program rows setting.names) there)

    none_fresh : (i serial : ℕ) → slice_get (objects_at_start setting.names (tables setting.program)) i ≡ Some (fresh_symbol serial) → serial < 0
    none_fresh i serial there =
        absurd
        (all_at (ObjectFits setting.program) (objects_at_start setting.names (tables setting.program)) i (fresh_symbol serial) (start_fits setting.program rows setting.names) there)

    limited : (limit : Limit) → WithinLimit limit (first_state (objects_at_start setting.names (tables setting.program)) input)
    limited unlimited = tt
    limited (words m) = omega arith

    things : Things setting (world_at_start s.start.places) (at_start setting input) y
    things = record {
      represents = (law_static_data setting.names (tables setting.program) low setting.further laid input y rows.built_in s.start bytes begins).0;
      within_limit = limited setting.limit;
      control = control_there;
      further = further_there;
      serials = (0, control 2 (lit< tt), refl, lit< tt);
      globals = global_there;
      dynamics = dynamic_there;
      literals = λ i l e.
          subst (λ w. LiteralIs setting (world_at_start s.start.places) i l w) (sym (literal_is i l e))
          (laid_is i l e (all_at (LiteralFound setting.program) setting.program.literals i l rows.literals e));
      symbols = symbol_stands;
      laid_symbols = sym s.symbols;
      fresh_symbols = record { below = none_fresh; taken = omega arith };
      box_count = refl;
      boxes_apart = record { heap = λ i j a h k. absurd (cc h); stack = λ i j a h k. absurd (cc h) };
      boxes = λ i b e. absurd (cc e);
      methods = λ i a called e. absurd (cc e);
      exit_forms = refl;
      functions = function_there;
      captured = λ i cs e. absurd (cc e);
      generics = generic_there;
    }

    pub main_begins : RoomFor setting.limit start_words (at_start setting input).state y
        → MainBegins setting start_words (world_at_start s.start.places) (at_start setting input) y
    main_begins room = record {
      things = things;
      current = (0, control 0 (lit< tt));
      link = (0, control 1 (lit< tt));
      end = (0, control 8 (lit< tt));
      no_handler = control 5 (lit< tt);
      no_binding = control 6 (lit< tt);
      end_form = refl;
      safe = record { made = omega arith; captured = λ i cs e. absurd (cc e) };
      room = room;
    }

pub beginnings : LawOfBeginnings
beginnings setting laid s table rows input y bytes begins cost room = record {
  main = main_begins setting laid s table rows input y bytes begins room;
  no_block = begins.blocks;
  no_cost = cost;
}
