-- Where a form may stand: what is bound there has numbers that rise from the outermost to the innermost, below those of
-- the next variable and the next exit; and the lexical scope of such a place (ISO/IEC 13816:2007, 11).
use Rattle.std.specs.Prelude.{◌≡◌, ℕ, ◌+◌, ◌==◌, ◌≤◌, true, false, List, [], ◌∷◌, ◌++◌, length}
use Rattle.std.specs.List.{list_any}
use Rattle.base.specs.AllOf.{AllOf}
use Rattle.lang_meaning.specs.declared.scope.NamedExit.{NamedExit}
use Rattle.lang_meaning.specs.declared.scope.ExitForm.TheVariants as exit
use Rattle.lang_meaning.specs.declared.scope.LexicalScope.{LexicalScope}
use Rattle.front_profile.specs.declared.bound.Bound.{Bound}
use Rattle.front_profile.specs.declared.bound.Bound.TheVariants.{Variable, Function, Block, Tags}
use Rattle.front_profile.specs.Nodes.{StaticContext}
use Rattle.front_profile.specs.Definitions.{Definitions}

-- the variables around, the innermost last, and the numbers of the exits

abbrev pub variable_at : Bound → List ℕ
variable_at (Variable x v) = v ∷ []
variable_at (Function x v) = []
variable_at (Block x e) = []
variable_at (Tags xs e) = []

abbrev pub variables_around : List Bound → List ℕ
variables_around [] = []
variables_around (b ∷ bs) = variable_at b ++ variables_around bs

abbrev pub exit_at : Bound → List ℕ
exit_at (Block x e) = e ∷ []
exit_at (Tags xs e) = e ∷ []
exit_at (Variable x v) = []
exit_at (Function x v) = []

abbrev pub exit_numbers : List Bound → List ℕ
exit_numbers [] = []
exit_numbers (b ∷ bs) = exit_at b ++ exit_numbers bs

-- the exits around with the forms that make them, the innermost first: behind n tags there are n + 1 segments

abbrev pub exit_of : Bound → List NamedExit
exit_of (Block x e) = record { exit = e; around = exit.Block } ∷ []
exit_of (Tags xs e) = record { exit = e; around = exit.Tagbody (length xs + 1) } ∷ []
exit_of (Variable x v) = []
exit_of (Function x v) = []

abbrev pub exits_around : List Bound → List NamedExit
exits_around [] = []
exits_around (b ∷ bs) = exits_around bs ++ exit_of b

abbrev pub scope_of : StaticContext → LexicalScope
scope_of a = record { variables = variables_around a.bound; exits = exits_around a.bound; in_method = a.spot.in_method }

-- numbers that rise, from that one on, and stay below the other
abbrev pub Rises : ℕ → List ℕ → ℕ → Type 0
Rises low [] high = low ≤ high
Rises low (n ∷ ns) high = (low ≤ n) × Rises (n + 1) ns high

-- a local function is a variable around
abbrev pub FunctionThere : List ℕ → Bound → Type 0
FunctionThere vs (Function x v) = list_any (λ w. v == w) vs ≡ true
FunctionThere vs (Variable x v) = Unit {0}
FunctionThere vs (Block x e) = Unit {0}
FunctionThere vs (Tags xs e) = Unit {0}

-- at top level nothing is bound, and there is no method
pub record EmptyContext (a : StaticContext) : Type 0 where
  pub bound : a.bound ≡ []
  pub method : a.spot.in_method ≡ false

pub record WellFormedContext (g : Definitions) (a : StaticContext) : Type 0 where
  pub variables : Rises 0 (variables_around a.bound) g.variables
  pub exits : Rises 0 (exit_numbers a.bound) g.exits
  pub functions : AllOf (FunctionThere (variables_around a.bound)) a.bound
  pub top : a.spot.top ≡ true → EmptyContext a
