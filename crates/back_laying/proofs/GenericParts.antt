-- The parts of a generic function's words, one behind another.
use Rattle.std.proofs.Common.{◌≡◌, ℕ, suc, ◌+◌, ◌*◌, ◌^◌, ◌≤◌, ◌⊎◌, inl, inr, ⊎_elim, List, [], ◌∷◌, ◌++◌, Option, length, map, refl, sym, ap, subst, ◌∙◌, append_assoc, length-append, arith}
use Rattle.std.specs.Prelude.{flat_map}
use Rattle.std.proofs.lemmas.List.{length-map}
use Rattle.lang_meaning.specs.declared.program.ProgramRows.{ProgramRows}
use Rattle.lang_meaning.specs.declared.program.GenericRow.{GenericRow}
use Rattle.lang_meaning.specs.Cells.{tuples}
use Rattle.lang_meaning.specs.Classes.{chain}
use Rattle.lang_meaning.specs.Objects.{Chain}
use Rattle.lang_dispatch.specs.Tables.{tuples_of}
use Rattle.back_relation.specs.Chains.{arity_word, specialised_words}
use Rattle.back_words.specs.Generics.{specialised_arguments, specialised_at, map_words, tuple_chains, chain_cells, words_of_chain, all_chain_words, maps_at, chains_at, generic_words}
use Rattle.back_laying.specs.declared.groups.GenericGroups.{GenericGroups}
use Rattle.back_laying.specs.declared.groups.SpecialisedArgument.{SpecialisedArgument}
use Rattle.back_laying.specs.Grouped.{arguments_of, AreGrouped}
use Rattle.back_laying.specs.TooLarge.{SomeOf, IsLarge, DoNotFit}
use Rattle.back_laying.proofs.Large.{some_front, some_behind}
use Rattle.back_laying.proofs.MapWords.{maps_many}

parts_joined :
    (before one two three four five six seven specialised cells maps chains : List ℕ) (a b c : ℕ) → one ≡ before ++ a ∷ [] → two ≡ one ++ b ∷ [] → three ≡ two ++ c ∷ []
    → four ≡ three ++ specialised → five ≡ four ++ cells → six ≡ five ++ maps → seven ≡ six ++ chains
    → seven ≡ before ++ ((a ∷ b ∷ c ∷ []) ++ (specialised ++ (cells ++ (maps ++ chains))))
parts_joined before one two three four five six seven specialised cells maps chains a b c p q r s t u v =
    v ∙ ap (λ l. l ++ chains) u ∙ append_assoc five maps chains
    ∙ ap (λ l. l ++ (maps ++ chains)) t ∙ append_assoc four cells (maps ++ chains)
    ∙ ap (λ l. l ++ (cells ++ (maps ++ chains))) s ∙ append_assoc three specialised (cells ++ (maps ++ chains))
    ∙ ap (λ l. l ++ (specialised ++ (cells ++ (maps ++ chains)))) r ∙ append_assoc two (c ∷ []) (specialised ++ (cells ++ (maps ++ chains)))
    ∙ ap (λ l. l ++ c ∷ (specialised ++ (cells ++ (maps ++ chains)))) q ∙ append_assoc one (b ∷ []) (c ∷ (specialised ++ (cells ++ (maps ++ chains))))
    ∙ ap (λ l. l ++ b ∷ c ∷ (specialised ++ (cells ++ (maps ++ chains)))) p ∙ append_assoc before (a ∷ []) (b ∷ c ∷ (specialised ++ (cells ++ (maps ++ chains))))

cells_many : (cs : List (Option Chain)) (address : ℕ) → length (chain_cells cs address) ≡ length cs
cells_many [] address = refl
cells_many (c ∷ cs) address = ap suc (cells_many cs (address + 4 * length (words_of_chain c)))

specialised_many : (program : ProgramRows) (g : GenericRow) (is : List ℕ) (address : ℕ)
    → length (specialised_words (specialised_at program g is address)) ≡ 2 * length is
specialised_many program g [] address = refl
specialised_many program g (i ∷ is) address =
    let rest = specialised_many program g is (address + 4 * length program.classes) in
    omega (arith, rest)

module _ (program : ProgramRows) (symbol_of : ℕ → ℕ) (g : GenericRow) (address : ℕ) (found : GenericGroups) (grouped : AreGrouped program g g.required found) where
  arguments_many : length found.specialised ≡ length (specialised_arguments program g)
  arguments_many = sym (length-map found.specialised (λ (x : SpecialisedArgument). x.argument)) ∙ ap length grouped.specialised

  tuples_many : length (tuples found.firsts) ≡ length (tuple_chains program g)
  tuples_many = ap (λ ls. length (tuples ls)) grouped.firsts ∙ sym (length-map (tuples_of program g) (chain program g))

  pub maps_where : (maps : ℕ) → maps ≡ address + 12 + 8 * length found.specialised + 4 * length (tuples found.firsts) → maps ≡ maps_at program symbol_of g address
  maps_where maps e = omega (arith, e, arguments_many, tuples_many)

  chains_where : (maps start : ℕ) → maps ≡ maps_at program symbol_of g address → start ≡ maps + 4 * (length program.classes * length found.specialised)
      → start ≡ chains_at program symbol_of g address
  chains_where maps start m e =
      e ∙ ap (λ n. maps + 4 * (length program.classes * n)) arguments_many
      ∙ ap (λ n. maps + 4 * n) (sym (maps_many program g (specialised_arguments program g)))
      ∙ ap (λ n. n + 4 * length (flat_map (map_words program g) (specialised_arguments program g))) m

  -- all together
  pub generic_made :
      (before one two three four five six seven cells chains : List ℕ) (arity name count maps start : ℕ)
      → maps ≡ address + 12 + 8 * length found.specialised + 4 * length (tuples found.firsts)
      → start ≡ maps + 4 * (length program.classes * length found.specialised)
      → arity ≡ arity_word g.required g.rest → name ≡ symbol_of g.name.0 → count ≡ length found.specialised
      → cells ≡ chain_cells (map (chain program g) (tuples found.firsts)) start → chains ≡ all_chain_words (map (chain program g) (tuples found.firsts))
      → one ≡ before ++ arity ∷ [] → two ≡ one ++ name ∷ [] → three ≡ two ++ count ∷ []
      → four ≡ three ++ specialised_words (specialised_at program g (arguments_of found.specialised) maps)
      → five ≡ four ++ cells → six ≡ five ++ flat_map (map_words program g) (specialised_arguments program g) → seven ≡ six ++ chains
      → seven ≡ before ++ generic_words program symbol_of g address
  generic_made before one two three four five six seven cells chains arity name count maps start at_maps at_start is_arity is_name is_count is_cells is_chains p q r s t u v =
      let here : maps ≡ maps_at program symbol_of g address = maps_where maps at_maps in
      let behind : start ≡ chains_at program symbol_of g address = chains_where maps start here at_start in
      parts_joined before one two three four five six seven
      (specialised_words (specialised_at program g (specialised_arguments program g) (maps_at program symbol_of g address)))
      (chain_cells (tuple_chains program g) (chains_at program symbol_of g address))
      (flat_map (map_words program g) (specialised_arguments program g)) (all_chain_words (tuple_chains program g))
      (arity_word g.required g.rest) (symbol_of g.name.0) (length (specialised_arguments program g))
      (p ∙ ap (λ w. before ++ w ∷ []) is_arity)
      (q ∙ ap (λ w. one ++ w ∷ []) is_name)
      (r ∙ ap (λ w. two ++ w ∷ []) (is_count ∙ arguments_many))
      (s ∙ ap (λ is. three ++ specialised_words (specialised_at program g is maps)) grouped.specialised
      ∙ ap (λ a. three ++ specialised_words (specialised_at program g (specialised_arguments program g) a)) here)
      (t ∙ ap (λ l. four ++ l) (is_cells ∙ ap (λ ls. chain_cells (map (chain program g) (tuples ls)) start) grouped.firsts
      ∙ ap (chain_cells (tuple_chains program g)) behind))
      u
      (v ∙ ap (λ l. six ++ l) (is_chains ∙ ap (λ ls. all_chain_words (map (chain program g) (tuples ls))) grouped.firsts))

  -- ---- what does not fit

  abbrev header : List ℕ
  header = arity_word g.required g.rest ∷ symbol_of g.name.0 ∷ length (specialised_arguments program g) ∷ []

  abbrev specialised_part : List ℕ
  specialised_part = specialised_words (specialised_at program g (specialised_arguments program g) (maps_at program symbol_of g address))

  abbrev cells_part : List ℕ
  cells_part = chain_cells (tuple_chains program g) (chains_at program symbol_of g address)

  abbrev maps_part : List ℕ
  maps_part = flat_map (map_words program g) (specialised_arguments program g)

  abbrev chains_part : List ℕ
  chains_part = all_chain_words (tuple_chains program g)

  -- how many words there are
  words_many : length (generic_words program symbol_of g address)
      ≡ 3 + 2 * length (specialised_arguments program g) + length (tuple_chains program g) + length maps_part + length chains_part
  words_many =
      omega (
        arith,
        length-append specialised_part (cells_part ++ (maps_part ++ chains_part)),
        length-append cells_part (maps_part ++ chains_part),
        length-append maps_part chains_part,
        specialised_many program g (specialised_arguments program g) (maps_at program symbol_of g address),
        cells_many (tuple_chains program g) (chains_at program symbol_of g address),
      )

  pub arity_too_large : IsLarge (arity_word g.required g.rest) → DoNotFit address (generic_words program symbol_of g address)
  arity_too_large h = inr (inl h)

  -- the parts in front of the maps end at such an address
  pub front_too_large : (words : ℕ) → words ≤ 3 + 2 * length found.specialised + length (tuples found.firsts) → 2 ^ 32 ≤ address + 4 * words
      → DoNotFit address (generic_words program symbol_of g address)
  front_too_large words within h =
      let end : 2 ^ 32 ≤ address + 4 * length (generic_words program symbol_of g address) = omega (arith, h, within, words_many, arguments_many, tuples_many) in
      inl end

  pub arguments_too_large : (maps : ℕ) → maps ≡ address + 12 + 8 * length found.specialised + 4 * length (tuples found.firsts)
      → (2 ^ 32 ≤ maps + 4 * (length program.classes * length found.specialised))
      ⊎ SomeOf IsLarge (specialised_words (specialised_at program g (arguments_of found.specialised) maps))
      → DoNotFit address (generic_words program symbol_of g address)
  arguments_too_large maps at_maps h =
      let many : length maps_part ≡ length program.classes * length found.specialised =
      maps_many program g (specialised_arguments program g) ∙ ap (λ n. length program.classes * n) (sym arguments_many) in
      ⊎_elim
      (λ (far : 2 ^ 32 ≤ maps + 4 * (length program.classes * length found.specialised)).
      let end : 2 ^ 32 ≤ address + 4 * length (generic_words program symbol_of g address) = omega (arith, far, at_maps, many, words_many, arguments_many, tuples_many) in
      inl end)
      (λ (some : SomeOf IsLarge (specialised_words (specialised_at program g (arguments_of found.specialised) maps))).
      let there : SomeOf IsLarge specialised_part =
      subst (λ a. SomeOf IsLarge (specialised_words (specialised_at program g (specialised_arguments program g) a))) (maps_where maps at_maps)
      (subst (λ is. SomeOf IsLarge (specialised_words (specialised_at program g is maps))) grouped.specialised some) in
      inr (some_behind IsLarge header (specialised_part ++ (cells_part ++ (maps_part ++ chains_part)))
      (some_front IsLarge specialised_part (cells_part ++ (maps_part ++ chains_part)) there)))
      h

  pub maps_too_large : SomeOf IsLarge maps_part → DoNotFit address (generic_words program symbol_of g address)
  maps_too_large some =
      inr (some_behind IsLarge header (specialised_part ++ (cells_part ++ (maps_part ++ chains_part)))
      (some_behind IsLarge specialised_part (cells_part ++ (maps_part ++ chains_part))
      (some_behind IsLarge cells_part (maps_part ++ chains_part) (some_front IsLarge maps_part chains_part some))))

  pub chains_too_large : (maps start : ℕ) → maps ≡ address + 12 + 8 * length found.specialised + 4 * length (tuples found.firsts)
      → start ≡ maps + 4 * (length program.classes * length found.specialised)
      → DoNotFit start (all_chain_words (map (chain program g) (tuples found.firsts))) → DoNotFit address (generic_words program symbol_of g address)
  chains_too_large maps start at_maps at_start h =
      let behind : start ≡ chains_at program symbol_of g address = chains_where maps start (maps_where maps at_maps) at_start in
      let there : DoNotFit start chains_part = subst (λ ls. DoNotFit start (all_chain_words (map (chain program g) (tuples ls)))) grouped.firsts h in
      ⊎_elim
      (λ (far : 2 ^ 32 ≤ start + 4 * length chains_part).
      let end : 2 ^ 32 ≤ address + 4 * length (generic_words program symbol_of g address) = omega (arith, far, behind, words_many) in inl end)
      (λ (some : SomeOf IsLarge chains_part).
      inr (some_behind IsLarge header (specialised_part ++ (cells_part ++ (maps_part ++ chains_part)))
      (some_behind IsLarge specialised_part (cells_part ++ (maps_part ++ chains_part))
      (some_behind IsLarge cells_part (maps_part ++ chains_part) (some_behind IsLarge maps_part chains_part some)))))
      there
