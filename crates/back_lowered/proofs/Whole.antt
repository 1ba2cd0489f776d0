-- A program whose words were laid one part after another is laid.
use Rattle.std.proofs.Common.{◌≡◌, ℕ, ◌+◌, ◌*◌, ◌≤◌, List, [], ◌∷◌, ◌++◌, length, refl, sym, ◌∙◌, ap, subst, length-append, map, arith}
use Rattle.std.specs.Prelude.{replicate}
use Rattle.std.proofs.lemmas.List.{length-map}
use Rattle.lang_meaning.specs.declared.program.FunctionRow.{FunctionRow}
use Rattle.lang_meaning.specs.declared.program.LiteralRow.{LiteralRow}
use Rattle.lang_meaning.specs.declared.program.LiteralRow.TheVariants as row
use Rattle.lang_meaning.specs.Lookup.{text}
use Rattle.flat_language.specs.declared.program.FlatProgram.{FlatProgram}
use Rattle.flat_language.specs.FlatNodes.{tables}
use Rattle.mid_arena.specs.Tags.{nil_word, unbound_word}
use Rattle.mid_start.specs.declared.static_data.StaticData.{StaticData}
use Rattle.mid_start.specs.NamedSymbols.{HaveSymbols}
use Rattle.mid_start.specs.StaticData.{IsStaticData, word_of_text}
use Rattle.std.specs.Prelude.{slice_index_or}
use Rattle.std.specs.Option.{unwrap_or}
use Rattle.back_lowering.specs.declared.placement.Placement.{Placement}
use Rattle.back_lowering.specs.ControlWords.{control_words}
use Rattle.back_words.specs.Start.{wanted_names, laid_symbols, laid_literal, literals_from}
use Rattle.back_words.specs.Uses.{program_uses}
use Rattle.back_words.specs.Variables.{low_words, global_addresses, dynamic_addresses}
use Rattle.back_words.specs.Words.{further_words, placement_of, generics_at, arity_of}
use Rattle.back_uses.specs.declared.used.UsedNames.{UsedNames}
use Rattle.mid_start.specs.Rows.{unit_words, most_static_words}
use Rattle.back_uses.specs.Used.{AreUsed}
use Rattle.back_lowered.specs.declared.variables.Variables.{Variables}
use Rattle.back_lowered.specs.Variables.{HasVariables}
use Rattle.back_lowered.specs.Laid.{IsLaidProgram}

-- the addresses of generic functions stand behind the arities
pub generics_behind : (program : FlatProgram) (address m n : ℕ) → m ≡ length program.procedures → n ≡ length program.lambdas
    → address + 4 * (m + n) ≡ generics_at program address
generics_behind program address m n p q =
    let both : length (map arity_of program.procedures ++ map arity_of program.lambdas) ≡ length program.procedures + length program.lambdas =
    length-append (map arity_of program.procedures) (map arity_of program.lambdas)
    ∙ ap (λ k. k + length (map arity_of program.lambdas)) (length-map program.procedures arity_of)
    ∙ ap (λ k. length program.procedures + k) (length-map program.lambdas arity_of) in
    omega (arith, both, p, q)

-- the words of literals, where other words of the arena are laid
module _ (names : List (List ℕ)) (functions : List FunctionRow) (a b : StaticData) (literals : a.literals ≡ b.literals) (classes : a.classes ≡ b.classes)
    (rows : a.functions ≡ b.functions) where
  same_literal : (i : ℕ) (l : LiteralRow) → laid_literal names functions a i l ≡ laid_literal names functions b i l
  same_literal i (row.Datum d) = ap (λ ws. slice_index_or ws i nil_word) literals
  same_literal i (row.Class c) = ap (λ ws. slice_index_or ws c nil_word) classes
  same_literal i (row.Function name) = ap (λ ws. unwrap_or (word_of_text names functions ws (text names name.0)) nil_word) rows

  same_literals : (ls : List LiteralRow) (i : ℕ) → literals_from names functions a ls i ≡ literals_from names functions b ls i
  same_literals [] i = refl
  same_literals (l ∷ ls) i =
      ap (λ w. w ∷ literals_from names functions a ls (i + 1)) (same_literal i l)
      ∙ ap (λ ws. laid_literal names functions b i l ∷ ws) (same_literals ls (i + 1))

module _ (names : List (List ℕ)) (program : FlatProgram) (used : UsedNames) (are : AreUsed (program_uses names program) used)
    (v : Variables) (has : HasVariables names program v)
    (low : List ℕ) (low_is : low ≡ replicate control_words 0 ++ replicate v.count unbound_word)
    (objects : StaticData) (start : IsStaticData names (tables program) low [] objects) (have : HaveSymbols used.symbols objects.arena.symbols)
    (symbols literals : List ℕ) (symbols_are : symbols ≡ laid_symbols names objects.arena.symbols)
    (literals_are : literals ≡ literals_from names program.functions objects program.literals 0)
    (address : ℕ) (address_is : address ≡ 4 * length objects.arena.words)
    (further : List ℕ) (further_are : further ≡ further_words program symbols address)
    (all : StaticData) (kept : all ≡ record objects { arena = record objects.arena { words = all.arena.words } })
    (behind : all.arena.words ≡ objects.arena.words ++ further)
    (begins : (l : List ℕ) → IsStaticData names (tables program) l [] objects → IsStaticData names (tables program) l further all)
    (room :
    length objects.arena.words
    ≤ 46 + length low + most_static_words program.classes program.functions program.literals + unit_words * length used.symbols) where
  low_words_are : low ≡ low_words names program
  low_words_are = low_is ∙ ap (λ n. replicate control_words 0 ++ replicate n unbound_word) has.count

  started : IsStaticData names (tables program) (low_words names program) further all
  started = begins (low_words names program) (subst (λ l. IsStaticData names (tables program) l [] objects) low_words_are start)

  begins_there : address ≡ started.further_at
  begins_there =
      let long : length all.arena.words ≡ length objects.arena.words + length further = ap length behind ∙ length-append objects.arena.words further in
      omega (arith, long, address_is, started.first, started.further_end)

  laid_within :
      length all.arena.words
      ≤ 46 + length (low_words names program) + most_static_words program.classes program.functions program.literals
      + unit_words * length (wanted_names names program)
      + length further
  laid_within =
      let long : length all.arena.words ≡ length objects.arena.words + length further = ap length behind ∙ length-append objects.arena.words further in
      let lows : length low ≡ length (low_words names program) = ap length low_words_are in
      let names_are : length used.symbols ≡ length (wanted_names names program) = ap length are.symbols in
      omega (arith, room, long, lows, names_are)

  same_symbols : all.arena.symbols ≡ objects.arena.symbols
  same_symbols = ap (λ s. s.arena.symbols) kept

  symbols_laid : symbols ≡ laid_symbols names all.arena.symbols
  symbols_laid = symbols_are ∙ ap (laid_symbols names) (sym same_symbols)

  literals_laid : literals ≡ literals_from names program.functions all program.literals 0
  literals_laid =
      literals_are
      ∙ sym (same_literals names program.functions all objects (ap (λ s. s.literals) kept) (ap (λ s. s.classes) kept) (ap (λ s. s.functions) kept)
      program.literals 0)

  module _ (procedures lambdas generics : ℕ) (p : procedures ≡ length program.procedures) (q : lambdas ≡ length program.lambdas)
      (g : generics ≡ generics_at program address) where
    abbrev made : List ℕ → List ℕ → List ℕ → List ℕ → ℕ → ℕ → ℕ → ℕ → Placement
    made ls ss gs ds ps qs from os = record {
      literals = ls;
      symbols = ss;
      globals = gs;
      dynamics = ds;
      procedures = ps;
      lambdas = qs;
      arities = from;
      generics = os;
    }

    same_placement :
        made literals symbols v.globals v.dynamics procedures lambdas address generics
        ≡ placement_of names program (literals_from names program.functions all program.literals 0) (laid_symbols names all.arena.symbols) started.further_at
    same_placement =
        ap (λ x. made x symbols v.globals v.dynamics procedures lambdas address generics) literals_laid
        ∙ ap (λ x. made (literals_from names program.functions all program.literals 0) x v.globals v.dynamics procedures lambdas address generics) symbols_laid
        ∙ ap (λ x. made (literals_from names program.functions all program.literals 0) (laid_symbols names all.arena.symbols) x v.dynamics procedures lambdas address generics) has.globals
        ∙ ap (λ x. made (literals_from names program.functions all program.literals 0) (laid_symbols names all.arena.symbols) (global_addresses names program) x procedures lambdas address generics) has.dynamics
        ∙ ap (λ x. made (literals_from names program.functions all program.literals 0) (laid_symbols names all.arena.symbols) (global_addresses names program) (dynamic_addresses names program) x lambdas address generics) p
        ∙ ap (λ x. made (literals_from names program.functions all program.literals 0) (laid_symbols names all.arena.symbols) (global_addresses names program) (dynamic_addresses names program) (length program.procedures) x address generics) q
        ∙ ap (λ x. made (literals_from names program.functions all program.literals 0) (laid_symbols names all.arena.symbols) (global_addresses names program) (dynamic_addresses names program) (length program.procedures) (length program.lambdas) address x) g
        ∙ ap (λ x. made (literals_from names program.functions all program.literals 0) (laid_symbols names all.arena.symbols) (global_addresses names program) (dynamic_addresses names program) (length program.procedures) (length program.lambdas) x (generics_at program x)) begins_there

    pub program_laid :
        IsLaidProgram names program record {
          placement = made literals symbols v.globals v.dynamics procedures lambdas address generics;
          «data» = all;
        }
    program_laid = record {
      further = further;
      start = started;
      further_is =
          further_are ∙ ap (λ s. further_words program s address) symbols_laid
          ∙ ap (λ a. further_words program (laid_symbols names all.arena.symbols) a) begins_there;
      placement = same_placement;
      within = laid_within;
      symbols = subst (λ s. HaveSymbols (wanted_names names program) s) (sym same_symbols) (subst (λ w. HaveSymbols w objects.arena.symbols) are.symbols have);
    }
