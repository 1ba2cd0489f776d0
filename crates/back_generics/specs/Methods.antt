-- **A chain of methods runs**: a level below, for a generic function, and at the same level, for the next method.
use Rattle.std.specs.Prelude.{◌≡◌, ℕ, suc, ◌+◌, ◌≤◌, List, [], ◌∷◌, Some, length}
use Rattle.lang_meaning.specs.declared.program.GenericRow.{GenericRow}
use Rattle.lang_meaning.specs.Objects.{Chain}
use Rattle.lang_meaning.specs.State.{DynamicContext}
use Rattle.lang_meaning.specs.Values.{Value}
use Rattle.flat_language.specs.declared.program.FlatProcedure.{FlatProcedure}
use Rattle.flat_language.specs.FlatSignals.{signal, apply_chain}
use Rattle.flat_language.specs.FlatState.{FlatState}
use Rattle.mid_code.specs.State.{MidState}
use Rattle.back_lowering.specs.Program.{Extra}
use Rattle.back_lowering.specs.Routines.{chain_routine}
use Rattle.back_relation.specs.Setting.{Setting}
use Rattle.back_relation.specs.Placed.{IsPlaced}
use Rattle.back_relation.specs.Chains.{ChainAt, ChainTakes}
use Rattle.back_relation.specs.Room.{entry_words}
use Rattle.back_relation.specs.Worlds.{World, Standing}
use Rattle.back_relation.specs.Around.{CallBegins, SiteStored}
use Rattle.back_relation.specs.Ends.{CallEnds}
use Rattle.back_relation.specs.Forms.{context_at, code_at}
use Rattle.back_relation.specs.Procedures.{called, ArgumentsLent, EntryDoes}
use Rattle.back_relation.specs.RoutineClaims.{ChainDoes, NextDoes, chain_credit}
use Rattle.back_calling.specs.Lending.{LentBegins}
use Rattle.back_conditions.specs.Law.{ConditionsDo}

-- the entries of all functions do what is to be shown of them, with all turns that a level has
abbrev pub EntriesDo : Setting → (k : ℕ) → Type 0
EntriesDo setting k = (turns entry : ℕ) (extra : Extra) (q : FlatProcedure) → turns ≤ setting.turns_each → EntryDoes setting k turns entry extra q

-- those of a level below
abbrev pub EntriesBelow : Setting → (k : ℕ) → Type 0
EntriesBelow setting k = (j : ℕ) → k ≡ suc j → EntriesDo setting j

-- the chain of a generic function does what is claimed of it, with so many turns left over for what calls it
abbrev pub ChainOver : (setting : Setting) → (k turns spare : ℕ) → (rs valid : List Standing) → World → DynamicContext → FlatState → MidState → Type 0
ChainOver setting k turns spare rs valid w around z y =
    (g : GenericRow) (c : Chain) (vs : List Value) (chain address : ℕ) → ChainAt setting chain c → ChainTakes setting (length vs) c → (c.primary ≡ [] → ⊥)
    → ArgumentsLent setting w y.arena address vs → SiteStored setting around y → CallBegins setting rs valid entry_words w around z y
    → CallEnds setting chain_credit (turns + spare) rs valid w around z y (apply_chain (context_at setting k) (signal (context_at setting k)) g (Some c) vs around z)
    (called (code_at setting k turns) (chain_routine setting.at) (chain ∷ length vs ∷ address ∷ []) y)

-- the same where there is a level and the words of the arguments are lent in words that the application pays
abbrev pub ChainLends : (setting : Setting) → (k turns spare : ℕ) → Type 0
ChainLends setting k turns spare =
    (rs valid : List Standing) (g : GenericRow) (c : Chain) (vs : List Value) (chain address : ℕ) (w : World) (around : DynamicContext) (z : FlatState) (y : MidState)
    → ChainAt setting chain c → ChainTakes setting (length vs) c → (c.primary ≡ [] → ⊥) → LentBegins setting rs valid entry_words (length vs) w around z y → SiteStored setting around y
    → ArgumentsLent setting w y.arena address vs
    → CallEnds setting chain_credit (turns + spare) rs valid w around z y (apply_chain (context_at setting (suc k)) (signal (context_at setting (suc k))) g (Some c) vs around z)
    (called (code_at setting (suc k) turns) (chain_routine setting.at) (chain ∷ length vs ∷ address ∷ []) y)

-- **the chain of a generic function**, with a turn more than a level has at most, where entries do a level below
abbrev pub LawOfChains : Type 0
LawOfChains =
    (setting : Setting) (k turns spare : ℕ) (rs valid : List Standing) (w : World) (around : DynamicContext) (z : FlatState) (y : MidState)
    → IsPlaced setting → turns + spare ≤ suc setting.turns_each → EntriesBelow setting k → ChainOver setting k turns spare rs valid w around z y

abbrev pub LawOfLentChains : Type 0
LawOfLentChains =
    (setting : Setting) (k turns spare : ℕ) → IsPlaced setting → turns + spare ≤ suc setting.turns_each → EntriesDo setting k → ChainLends setting k turns spare

-- so the routine of chains does what is claimed of it
abbrev pub LawOfChainClaims : Type 0
LawOfChainClaims =
    (setting : Setting) (k turns : ℕ) (rs valid : List Standing) (w : World) (around : DynamicContext) (z : FlatState) (y : MidState)
    → IsPlaced setting → turns ≤ suc setting.turns_each → EntriesBelow setting k → ChainDoes setting k turns rs valid w around z y

-- **the next method**, where entries do at that level, and new conditions leave a turn over
abbrev pub LawOfNext : Type 0
LawOfNext =
    (setting : Setting) (k turns : ℕ) (rs valid : List Standing) (w : World) (around : DynamicContext) (z : FlatState) (y : MidState)
    → IsPlaced setting → turns ≤ suc setting.turns_each → EntriesDo setting k → ConditionsDo setting k 1 around
    → NextDoes setting k turns rs valid w around z y
