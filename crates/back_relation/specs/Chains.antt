-- The words of generic functions: chains of methods, and from which classes of arguments a chain is found.
use Rattle.std.specs.Prelude.{◌≡◌, ⊤, ℕ, zero, suc, ◌+◌, ◌*◌, ◌<◌, ◌≤◌, Bool, true, List, [], ◌∷◌, ◌++◌, Option, Some, None, length, map, slice_get, is_some, if◌then◌else◌}
use Rattle.base.specs.AllOf.{AllOf}
use Rattle.lang_meaning.specs.declared.program.GenericRow.{GenericRow}
use Rattle.lang_meaning.specs.Classes.{chain}
use Rattle.lang_meaning.specs.Objects.{Chain}
use Rattle.lang_meaning.specs.Signals.{takes}
use Rattle.flat_language.specs.declared.program.FlatProcedure.{FlatProcedure}
use Rattle.flat_language.specs.FlatNodes.{tables}
use Rattle.back_lowering.specs.Calls.{is_method}
use Rattle.back_lowering.specs.ControlWords.{around_method, before_method, after_method, primary_method, chain_end, primary_behind, generic_arity, generic_name, generic_specialised, generic_groups}
use Rattle.back_lowering.specs.Placement.{symbol_word}
use Rattle.back_relation.specs.Setting.{Setting, ConstantAt, ConstantsAt}

-- how many arguments a function takes, as a word: twice how many it requires, and one more where it takes further ones
abbrev pub arity_word : (required : ℕ) → (rest : Bool) → ℕ
arity_word required rest = 2 * required + (if rest then 1 else 0)

-- where so many methods run before or after the first primary one, a word in front of them says how many bytes behind it that one's word is
abbrev pub ahead_words : (methods : ℕ) → List ℕ
ahead_words zero = []
ahead_words (suc n) = (8 * (4 * (2 + n)) + primary_behind) ∷ []

-- the words of a chain: one for each method, by its kind and its procedure, in the order in which they run, and the end
abbrev pub method_words : (kind : ℕ) → List ℕ → List ℕ
method_words kind procedures = map (λ p. 8 * p + kind) procedures

abbrev pub chain_words : Chain → List ℕ
chain_words c =
    method_words around_method c.around
    ++ (ahead_words (length c.before + length c.after)
    ++ (method_words before_method c.before
    ++ (method_words after_method c.after
    ++ (method_words primary_method c.primary ++ chain_end ∷ []))))

-- an argument that is specialised: its number, and where its map is, which has a word for each class
pub record Specialised : Type 0 where
  pub argument : ℕ
  pub map_address : ℕ

abbrev pub specialised_words : List Specialised → List ℕ
specialised_words [] = []
specialised_words (x ∷ xs) = 4 * x.argument ∷ x.map_address ∷ specialised_words xs

-- arguments from a number on, each behind the one before
abbrev pub InOrder : ℕ → List Specialised → Type 0
InOrder n [] = ⊤
InOrder n (x ∷ xs) = (n ≤ x.argument) × InOrder (x.argument + 1) xs

module _ (setting : Setting) where
  -- a method of the program, which takes so many arguments
  pub record MethodTakes (count procedure : ℕ) : Type 0 where
    pub method : FlatProcedure
    pub there : slice_get setting.program.procedures procedure ≡ Some method
    pub of_generic : is_method setting.program procedure ≡ true
    pub takes_so_many : takes (length method.required) (is_some method.rest) count ≡ true

  -- all methods of a chain take so many
  pub record ChainTakes (count : ℕ) (c : Chain) : Type 0 where
    pub around : AllOf (MethodTakes count) c.around
    pub before : AllOf (MethodTakes count) c.before
    pub primary : AllOf (MethodTakes count) c.primary
    pub after : AllOf (MethodTakes count) c.after

  -- The words of a chain stand at an address, which is none of no chain. Without a primary method there is no other one either.
  pub record ChainAt (address : ℕ) (c : Chain) : Type 0 where
    pub some : 1 ≤ address
    pub no_other : c.primary ≡ [] → (c.around ≡ []) × (c.before ≡ []) × (c.after ≡ [])
    pub words : ConstantsAt setting address (chain_words c)

  -- what the maps of specialised arguments come to together, where the arguments are of these classes
  abbrev pub OffsetIs : List Specialised → List ℕ → ℕ → Type 0
  OffsetIs [] classes offset = offset ≡ 0
  OffsetIs (x ∷ xs) classes offset =
      (class one others : ℕ) × (slice_get classes x.argument ≡ Some class) × ConstantAt setting (x.map_address + 4 * class) one
      × OffsetIs xs classes others × (offset ≡ one + others)

  -- the word of a tuple of classes: the address of its chain, or 0 where there is none
  abbrev pub ChainFound : GenericRow → ℕ → Option Chain → Type 0
  ChainFound g address None = ConstantAt setting address 0
  ChainFound g address (Some c) =
      (start : ℕ) × ConstantAt setting address start × ChainAt start c
      × ((count : ℕ) → takes g.required g.rest count ≡ true → ChainTakes count c)

  -- the words of a generic function at an address
  pub record GenericAt (address : ℕ) (g : GenericRow) : Type 0 where
    pub specialised : List Specialised
    pub arity : ConstantAt setting (address + generic_arity) (arity_word g.required g.rest)
    pub name : ConstantAt setting (address + generic_name) (symbol_word setting.at g.name.0)
    pub count : ConstantAt setting (address + generic_specialised) (length specialised)
    pub arguments : ConstantsAt setting (address + generic_groups) (specialised_words specialised)
    pub required : AllOf (λ (x : Specialised). x.argument < g.required) specialised
    pub few : length specialised ≤ g.required
    -- they are in order
    pub in_order : InOrder 0 specialised
    pub chains :
        (classes : List ℕ) → length classes ≡ g.required → AllOf (λ c. c < length setting.program.classes) classes
        → (offset : ℕ) × OffsetIs specialised classes offset
        × ChainFound g (address + generic_groups + 8 * length specialised + offset) (chain (tables setting.program) g classes)
