-- **A setting with the words of its program is placed.**
use Rattle.std.proofs.Common.{◌≡◌, ◌≢◌, ℕ, zero, suc, ◌+◌, ◌*◌, ◌<◌, ◌≤◌, List, [], ◌∷◌, ◌++◌, length, map, Some, refl, sym, ◌∙◌, ap, subst, arith}
use Rattle.std.specs.Prelude.{flat_map, slice_get}
use Rattle.std.specs.Option.{option_map}
use Rattle.std.proofs.lemmas.List.{length-map}
use Rattle.std.proofs.lemmas.Option.{slice_get-map}
use Rattle.base.specs.AllOf.{AllOf}
use Rattle.base.specs.Names.{slice_get-front}
use Rattle.lang_meaning.specs.declared.program.GenericRow.{GenericRow}
use Rattle.lang_meaning.specs.Lookup.{text}
use Rattle.flat_language.specs.declared.program.FlatProcedure.{FlatProcedure}
use Rattle.flat_language.specs.FlatNodes.{tables}
use Rattle.mid_arena.specs.Tags.{nil_word}
use Rattle.mid_start.proofs.Lists.{item_behind}
use Rattle.back_lowering.specs.ControlWords.{variables_address}
use Rattle.back_lowering.specs.Placement.{entry_of_lambda, symbol_word, global_address, dynamic_address}
use Rattle.back_relation.specs.Setting.{Setting, ConstantAt, ConstantsAt}
use Rattle.back_relation.specs.Chains.{GenericAt}
use Rattle.back_relation.specs.Placed.{HasGlobal, HasDynamic, HasSymbol, WordsByText, ArityStands, IsPlaced}
use Rattle.back_words.specs.Uses.{as_symbol, symbols_among, uses, program_uses}
use Rattle.back_words.specs.Variables.{number_among, global_names, dynamic_names, dynamics_from}
use Rattle.back_words.specs.Blocks.{blocks, block_addresses}
use Rattle.back_words.specs.Generics.{generic_words}
use Rattle.back_words.specs.Words.{arity_of, arity_words, generics_at, generic_words_from, symbol_among, further_words, HasWords}
use Rattle.back_words.specs.Asked.{RowsAsked, SymbolsGiven}
use Rattle.back_words.specs.Laws.{FurtherStand, LawOfPlacedWords}
use Rattle.back_words.proofs.Constants.{split, one_at, all_constants, block_at, address_count}
use Rattle.back_words.proofs.Variables.{WordOf, address_of, has_word, same_word, word_same}
use Rattle.back_words.proofs.Generics.{generic_at}
use Rattle.back_words.proofs.Uses.{symbol_at, symbols_behind}

module _ (setting : Setting) (literals symbols : List ℕ) (has : HasWords setting literals symbols) where
  -- ---- variables

  pub global_is : (n : ℕ)
      → global_address setting.at n ≡ address_of (text setting.names) variables_address (length setting.names) (global_names setting.names setting.program) n
  global_is n = ap (λ p. global_address p n) has.placement

  pub dynamic_is : (n : ℕ)
      → dynamic_address setting.at n
      ≡ address_of (text setting.names) (dynamics_from setting.names setting.program) (length setting.names) (dynamic_names setting.names setting.program) n
  dynamic_is n = ap (λ p. dynamic_address p n) has.placement

  pub symbol_is : (n : ℕ) → symbol_among symbols n ≡ symbol_word setting.at n
  symbol_is n = sym (ap (λ p. symbol_word p n) has.placement)

  pub global_word : (n : ℕ) → HasGlobal setting n
      → WordOf (text setting.names) variables_address (global_names setting.names setting.program) n (global_address setting.at n)
  global_word n h =
      subst (λ a. WordOf (text setting.names) variables_address (global_names setting.names setting.program) n a) (sym (global_is n))
      (has_word (text setting.names) variables_address (length setting.names) (global_names setting.names setting.program) n (omega (arith, h, global_is n)))

  pub dynamic_word : (n : ℕ) → HasDynamic setting n
      → WordOf (text setting.names) (dynamics_from setting.names setting.program) (dynamic_names setting.names setting.program) n (dynamic_address setting.at n)
  dynamic_word n h =
      subst (λ a. WordOf (text setting.names) (dynamics_from setting.names setting.program) (dynamic_names setting.names setting.program) n a) (sym (dynamic_is n))
      (has_word (text setting.names) (dynamics_from setting.names setting.program) (length setting.names) (dynamic_names setting.names setting.program) n (omega (arith, h, dynamic_is n)))

  globals : WordsByText setting (HasGlobal setting) (global_address setting.at)
  globals = record {
    there = λ n h.
        let w = global_word n h in
        record {
          aligned = (55 + number_among (text setting.names) (global_names setting.names setting.program) n, omega (arith, w.address_is));
          below = omega (arith, w.address_is, w.below, has.variables);
        };
    same = λ m n h k e.
        same_word (text setting.names) variables_address (global_names setting.names setting.program) m n (global_address setting.at m)
        (global_address setting.at n) (global_word m h) (global_word n k) e;
    apart = λ m n h k e.
        word_same (text setting.names) variables_address (global_names setting.names setting.program) m n (global_address setting.at m)
        (global_address setting.at n) (global_word m h) (global_word n k) e;
  }

  dynamics : WordsByText setting (HasDynamic setting) (dynamic_address setting.at)
  dynamics = record {
    there = λ n h.
        let w = dynamic_word n h in
        record {
          aligned = (
            55 + length (global_names setting.names setting.program)
                + number_among (text setting.names) (dynamic_names setting.names setting.program) n,
            omega (arith, w.address_is),
          );
          below = omega (arith, w.address_is, w.below, has.variables);
        };
    same = λ m n h k e.
        same_word (text setting.names) (dynamics_from setting.names setting.program) (dynamic_names setting.names setting.program) m n (dynamic_address setting.at m)
        (dynamic_address setting.at n) (dynamic_word m h) (dynamic_word n k) e;
    apart = λ m n h k e.
        word_same (text setting.names) (dynamics_from setting.names setting.program) (dynamic_names setting.names setting.program) m n (dynamic_address setting.at m)
        (dynamic_address setting.at n) (dynamic_word m h) (dynamic_word n k) e;
  }

  apart : (m n : ℕ) → HasGlobal setting m → HasDynamic setting n → global_address setting.at m ≢ dynamic_address setting.at n
  apart m n h k e =
      let one = global_word m h in
      let other = dynamic_word n k in
      omega (arith, one.address_is, one.below, other.address_is, e)

  -- ---- further words

  abbrev words_of : GenericRow → ℕ → List ℕ
  words_of = generic_words (tables setting.program) (symbol_among symbols)

  abbrev blocks_from : ℕ
  blocks_from = generic_words_from setting.program setting.further_at

  constants : ConstantsAt setting setting.further_at (further_words setting.program symbols setting.further_at)
  constants = subst (λ ws. ConstantsAt setting setting.further_at ws) has.further (all_constants setting)

  at_arities : ConstantsAt setting setting.further_at (arity_words setting.program)
      × ConstantsAt setting (generics_at setting.program setting.further_at) (block_addresses words_of setting.program.generics blocks_from ++ blocks words_of setting.program.generics blocks_from)
  at_arities = split setting (arity_words setting.program) (block_addresses words_of setting.program.generics blocks_from ++ blocks words_of setting.program.generics blocks_from) setting.further_at constants

  at_generics : ConstantsAt setting (generics_at setting.program setting.further_at) (block_addresses words_of setting.program.generics blocks_from)
      × ConstantsAt setting blocks_from (blocks words_of setting.program.generics blocks_from)
  at_generics =
      let parts = split setting (block_addresses words_of setting.program.generics blocks_from) (blocks words_of setting.program.generics blocks_from) (generics_at setting.program setting.further_at) at_arities.1 in
      let place : generics_at setting.program setting.further_at + 4 * length (block_addresses words_of setting.program.generics blocks_from) ≡ blocks_from =
      ap (λ n. generics_at setting.program setting.further_at + 4 * n) (address_count words_of setting.program.generics blocks_from) in
      (parts.0, subst (λ a. ConstantsAt setting a (blocks words_of setting.program.generics blocks_from)) place parts.1)

  arities_are : setting.at.arities ≡ setting.further_at
  arities_are = ap (λ p. p.arities) has.placement

  generics_are : setting.at.generics ≡ generics_at setting.program setting.further_at
  generics_are = ap (λ p. p.generics) has.placement

  procedures_are : setting.at.procedures ≡ length setting.program.procedures
  procedures_are = ap (λ p. p.procedures) has.placement

  arity_at : (entry : ℕ) (q : FlatProcedure) → slice_get (arity_words setting.program) entry ≡ Some (arity_of q) → ArityStands setting entry q
  arity_at entry q e =
      subst (λ a. ConstantAt setting (a + 4 * entry) (arity_of q)) (sym arities_are)
      (one_at setting (arity_words setting.program) setting.further_at entry (arity_of q) at_arities.0 e)

  procedure_arity : (p : ℕ) (q : FlatProcedure) → slice_get setting.program.procedures p ≡ Some q → ArityStands setting p q
  procedure_arity p q e =
      arity_at p q
      (slice_get-front (map arity_of setting.program.procedures) (map arity_of setting.program.lambdas) p (arity_of q)
      (slice_get-map arity_of setting.program.procedures p ∙ ap (option_map arity_of) e))

  lambda_arity : (p : ℕ) (q : FlatProcedure) → slice_get setting.program.lambdas p ≡ Some q → ArityStands setting (entry_of_lambda setting.at p) q
  lambda_arity p q e =
      let entry : entry_of_lambda setting.at p ≡ length (map arity_of setting.program.procedures) + p =
      omega (arith, procedures_are, length-map setting.program.procedures arity_of) in
      arity_at (entry_of_lambda setting.at p) q
      (ap (slice_get (arity_words setting.program)) entry
      ∙ item_behind (map arity_of setting.program.procedures) (map arity_of setting.program.lambdas) p
      ∙ slice_get-map arity_of setting.program.lambdas p
      ∙ ap (option_map arity_of) e)

  generic_there : RowsAsked setting.program → (g : ℕ) (row : GenericRow) → slice_get setting.program.generics g ≡ Some row
      → (address : ℕ) × ConstantAt setting (setting.at.generics + 4 * g) address × GenericAt setting address row
  generic_there asked g row e =
      let block = block_at setting words_of setting.program.generics blocks_from g row at_generics.1 e in (
        block.start,
        subst (λ a. ConstantAt setting (a + 4 * g) block.start) (sym generics_are)
            (one_at setting (block_addresses words_of setting.program.generics blocks_from) (generics_at setting.program setting.further_at) g block.start at_generics.0 block.found),
        generic_at setting asked g row e (symbol_among symbols) (symbol_is row.name.0) block.start block.constants,
      )

  generic_named : SymbolsGiven setting.names setting.program symbols → (g : ℕ) (row : GenericRow) → slice_get setting.program.generics g ≡ Some row
      → HasSymbol setting row.name.0
  generic_named given g row e =
      let P : ℕ → Type 0 = λ n. symbol_among symbols n ≢ nil_word in
      let named : P row.name.0 =
      symbol_at P setting.program.generics g row
      (symbols_behind P (flat_map (uses setting.names setting.program) setting.program.main) (map (λ (g : GenericRow). as_symbol g.name.0) setting.program.generics)
      (symbols_behind P (flat_map (λ (q : FlatProcedure). uses setting.names setting.program q.body) setting.program.lambdas)
      (flat_map (uses setting.names setting.program) setting.program.main ++ map (λ (g : GenericRow). as_symbol g.name.0) setting.program.generics)
      (symbols_behind P (flat_map (λ (q : FlatProcedure). uses setting.names setting.program q.body) setting.program.procedures)
      (flat_map (λ (q : FlatProcedure). uses setting.names setting.program q.body) setting.program.lambdas
      ++ (flat_map (uses setting.names setting.program) setting.program.main ++ map (λ (g : GenericRow). as_symbol g.name.0) setting.program.generics)) given))) e in
      subst (λ w. w ≢ nil_word) (symbol_is row.name.0) named

  pub placed_here : FurtherStand setting → RowsAsked setting.program → SymbolsGiven setting.names setting.program symbols → IsPlaced setting
  placed_here stand asked given = record {
    procedures = procedures_are;
    lambdas = ap (λ p. p.lambdas) has.placement;
    further_aligned = stand.aligned;
    further_words = stand.words;
    globals = globals;
    dynamics = dynamics;
    globals_apart = apart;
    procedure_arities = procedure_arity;
    lambda_arities = lambda_arity;
    generics = generic_there asked;
    generic_names = generic_named given;
  }

pub placed_words : LawOfPlacedWords
placed_words setting literals symbols has stand asked given = placed_here setting literals symbols has stand asked given
