-- **All routines at a level**: entries first, from bodies a level below; then conditions, by induction on how many handlers are around, since a handler is
-- applied under fewer; and then what is applied.
use Rattle.std.proofs.Common.{◌≡◌, ℕ, zero, suc, ◌+◌, ◌<◌, ◌≤◌, List, length, arith}
use Rattle.lang_meaning.specs.State.{DynamicContext}
use Rattle.flat_language.specs.declared.program.FlatProcedure.{FlatProcedure}
use Rattle.flat_language.specs.FlatState.{FlatState}
use Rattle.mid_code.specs.State.{MidState}
use Rattle.back_lowering.specs.Program.{Extra}
use Rattle.back_relation.specs.Setting.{Setting}
use Rattle.back_relation.specs.Placed.{IsPlaced}
use Rattle.back_relation.specs.Right.{ProgramIsRight}
use Rattle.back_relation.specs.Worlds.{World, Standing}
use Rattle.back_relation.specs.Procedures.{BodyDoes}
use Rattle.back_function_entries.proofs.Bodies.{bodies_law}
use Rattle.back_function_entries.proofs.WholeEntries.{entries_law, lent_entries_law}
use Rattle.back_function_entries.proofs.EntryLists.{lists_law}
use Rattle.back_function_entries.proofs.Methods.{methods_law}
use Rattle.back_exits.proofs.Within.{call_less}
use Rattle.back_conditions.specs.Law.{ConditionsDo}
use Rattle.back_conditions.specs.Within.{raise_credit, making_spare, RaisesWithin}
use Rattle.back_conditions.proofs.Combined.{conditions_law, errors_law}
use Rattle.back_conditions.specs.Handled.{FunctionsDo}
use Rattle.back_conditions.proofs.Raising.{raising_law}
use Rattle.back_generics.specs.Methods.{EntriesDo, EntriesBelow}
use Rattle.back_generics.proofs.Chains.{lent_chains_law}
use Rattle.back_generics.proofs.Next.{next_law}
use Rattle.back_generics.proofs.Functions.{function_claims_law}
use Rattle.back_generics.proofs.Generics.{generic_claims_law}
use Rattle.back_generics.specs.Law.{ApplyParts}
use Rattle.back_generics.proofs.Whole.{applications_law}
use Rattle.back_levels.specs.Levels.{FormsDo, RoutinesDo, LawOfRoutines}

module _ (setting : Setting) (k : ℕ) (right : ProgramIsRight setting) (below : (j : ℕ) → j < k → FormsDo setting j) where
  placed : IsPlaced setting
  placed = right.placed.placed

  -- ---- entries

  bodies_at : (j : ℕ) → j < k → (number : ℕ) (extra : Extra) (q : FlatProcedure) → BodyDoes setting j number extra q
  bodies_at j less number extra q = bodies_law setting j number extra q right (below j less setting.turns_each (omega arith) q.body).value

  entries_at : (i : ℕ) → i ≤ k → EntriesDo setting i
  entries_at i low turns number extra q fewer =
      entries_law setting i turns number extra q placed fewer
      (λ n same. (
        (λ rs valid w around z y. lists_law setting i n rs valid w around z y placed),
        (λ rs valid w around z y. methods_law setting i n rs valid w around z y placed),
      ))
      (λ j same. bodies_at j (omega (arith, same, low)) number extra q)

  entries : EntriesDo setting k
  entries = entries_at k (omega arith)

  entries_below : EntriesBelow setting k
  entries_below j same = entries_at j (omega (arith, same))

  -- ---- conditions

  abbrev Raises : DynamicContext → Type 0
  Raises around = RaisesWithin setting k setting.turns_each around 1 raise_credit

  conditions : (around : DynamicContext) → Raises around → (spare : ℕ) → spare ≤ making_spare → ConditionsDo setting k spare around
  conditions around raises spare few turns rs valid w z y fewer =
      conditions_law setting k raise_credit turns spare rs valid w around z y placed (omega arith) few
      (λ t low rs' valid' w' z' y' c mark c_word mark_word condition of_condition of_mark site begins.
      call_less setting (omega arith) (omega arith)
      (raises t (omega (arith, low, fewer)) rs' valid' w' z' y' c mark c_word mark_word condition of_condition of_mark site begins))

  functions : (around : DynamicContext) → Raises around → (turns : ℕ) → turns ≤ setting.turns_each → FunctionsDo setting k turns around
  functions around raises turns fewer rs valid w z y =
      function_claims_law setting k turns rs valid w around z y placed (omega (arith, fewer)) entries entries_below (conditions around raises 2 (omega arith))

  -- with so many handlers around at most
  raises_with : (n : ℕ) (around : DynamicContext) → length around.handlers ≤ n → Raises around
  raises_with zero around few = raising_law setting k setting.turns_each around placed (record { apply = λ t less inner fewer. absurd (omega (arith, few, fewer)) })
  raises_with (suc n) around few =
      raising_law setting k setting.turns_each around placed
      (record { apply = λ t less inner fewer. functions inner (raises_with n inner (omega (arith, few, fewer))) t (omega (arith, less)) })

  raises : (around : DynamicContext) → Raises around
  raises around = raises_with (length around.handlers) around (omega arith)

  -- ---- all routines

  -- what the routine of `apply` calls, a level below which bodies are known
  apply_parts : (around : DynamicContext) → ApplyParts setting k around
  apply_parts around = record {
    entries = λ j same turns number extra q fewer.
        lent_entries_law setting j turns number extra q placed fewer
        (λ n e. (
          (λ rs valid w a z y. lists_law setting (suc j) n rs valid w a z y placed),
          (λ rs valid w a z y. methods_law setting (suc j) n rs valid w a z y placed),
        ))
        (bodies_at j (omega (arith, same)) number extra q);
    chains = λ j same turns fewer. lent_chains_law setting j turns 1 placed (omega (arith, fewer)) (entries_at j (omega (arith, same)));
    conditions = conditions around (raises around) 1 (omega arith);
  }

  module _ (turns : ℕ) (fewer : turns ≤ setting.turns_each) where
    pub routines_do : RoutinesDo setting k turns
    routines_do = record {
      errors = λ rs valid w around z y. errors_law setting k turns rs valid w around z y placed (λ t low. raises around t (omega (arith, low, fewer)));
      function = λ rs valid w around z y. functions around (raises around) turns fewer rs valid w z y;
      generic = λ rs valid w around z y.
          generic_claims_law setting k turns rs valid w around z y placed (omega (arith, fewer)) entries_below (conditions around (raises around) 1 (omega arith));
      next = λ rs valid w around z y. next_law setting k turns rs valid w around z y placed (omega (arith, fewer)) entries (conditions around (raises around) 1 (omega arith));
      apply = λ rs valid w around z y. applications_law setting k turns rs valid w around z y placed fewer (apply_parts around);
    }

pub routines_law : LawOfRoutines
routines_law setting k right below turns fewer = routines_do setting k right below turns fewer
