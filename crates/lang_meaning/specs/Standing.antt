-- Where a form stands, and whether all that it names is bound there (ISO/IEC 13816:2007, 11 and 14.8).
use Rattle.std.specs.Prelude.{ℕ, ◌==◌, Bool, true, false, not, ◌&&◌, nat_lt, List, [], ◌∷◌, ◌++◌, Option, Some, None, filter, if◌then◌else◌}
use Rattle.std.specs.List.{list_all, list_any}
use Rattle.lang_meaning.specs.declared.capture.Capture.{Capture}
use Rattle.lang_meaning.specs.declared.capture.Capture.TheVariants.{Variable, Exit, Method}
use Rattle.lang_meaning.specs.declared.program.Procedure.{Procedure}
use Rattle.lang_meaning.specs.declared.scope.ExitForm.{ExitForm}
use Rattle.lang_meaning.specs.declared.scope.ExitForm.TheVariants.{Block, Tagbody}
use Rattle.lang_meaning.specs.declared.scope.NamedExit.{NamedExit}
use Rattle.lang_meaning.specs.declared.scope.LexicalScope.{LexicalScope}
use Rattle.lang_meaning.specs.Form.{Form, local, set_local, let_form, lambda, block, return_from, tagbody, go, next_method, has_next, parameters}
use Rattle.lang_meaning.specs.Subforms.{fold}
use Rattle.lang_meaning.specs.Counts.{count_forms}
use Rattle.lang_meaning.specs.Mentions.{same_part, owns, in_order, variables_bound, mentions}
use Rattle.lang_meaning.specs.Signals.{variables}

-- where a body stands: with these variables alone
abbrev pub alone : List ℕ → Bool → LexicalScope
alone vs in_method = record { variables = vs; exits = []; in_method = in_method }

abbrev pub with_bound : List ℕ → LexicalScope → LexicalScope
with_bound vs s = record s { variables = vs ++ s.variables }

-- an exit comes in front of those around it
abbrev pub with_around : ℕ → ExitForm → LexicalScope → LexicalScope
with_around x around s = record s { exits = (record { exit = x; around = around }) ∷ s.exits }

abbrev pub is_variable : LexicalScope → ℕ → Bool
is_variable s v = list_any (λ w. v == w) s.variables

-- the exit of that name is the innermost one
abbrev pub exit_around : ℕ → List NamedExit → Option ExitForm
exit_around x [] = None
exit_around x (e ∷ es) = if x == e.exit then Some e.around else exit_around x es

abbrev pub is_block : Option ExitForm → Bool
is_block None = false
is_block (Some Block) = true
is_block (Some (Tagbody segments)) = false

-- a tagbody with such a segment
abbrev pub is_segment : ℕ → Option ExitForm → Bool
is_segment i None = false
is_segment i (Some Block) = false
is_segment i (Some (Tagbody segments)) = nat_lt i segments

abbrev pub is_bound : LexicalScope → Capture → Bool
is_bound s (Variable v) = is_variable s v
is_bound s (Exit x) = list_any (λ e. x == e.exit) s.exits
is_bound s Method = s.in_method

-- what a function sees of where it is made: just what it captures
abbrev pub seen : List Capture → LexicalScope → LexicalScope
seen parts s = record {
  variables = filter (λ v. list_any (same_part (Variable v)) parts) s.variables;
  exits = filter (λ e. list_any (same_part (Exit e.exit)) parts) s.exits;
  in_method = s.in_method && list_any (same_part Method) parts;
}

-- whether a body mentions a part that is none of these variables
abbrev pub is_free : List ℕ → Form → Capture → Bool
is_free vs body p = not (owns vs p) && mentions p body

-- the captured parts stand in their order, are bound where the function is made, and are what its body mentions
-- besides its own variables
abbrev pub are_captured : LexicalScope → List ℕ → Form → List Capture → Bool
are_captured s vs body parts =
    in_order parts && list_all (is_bound s) parts && list_all (is_free vs body) parts

-- where the inner forms of a form stand: a function sees what it captures and its own variables
abbrev pub around_inner : Form → LexicalScope → LexicalScope
around_inner (let_form bs body) s = with_bound (variables_bound bs) s
around_inner (lambda required rest body parts) s = with_bound (parameters required rest) (seen parts s)
around_inner (block x body) s = with_around x Block s
around_inner (tagbody x segments) s = with_around x (Tagbody (count_forms segments)) s
around_inner f s = s

-- whether what a form itself names is bound
abbrev pub stands_itself : LexicalScope → Form → Bool
stands_itself s (local v) = is_variable s v
stands_itself s (set_local v f) = is_variable s v
stands_itself s (lambda required rest body parts) = are_captured s (parameters required rest) body parts
stands_itself s (return_from x f) = is_block (exit_around x s.exits)
stands_itself s (go x segment) = is_segment segment (exit_around x s.exits)
stands_itself s next_method = s.in_method
stands_itself s has_next = s.in_method
stands_itself s f = true

-- whether all of these are so in a scope
abbrev pub all_in : LexicalScope → List (LexicalScope → Bool) → Bool
all_in s tests = list_all (λ test. test s) tests

abbrev pub stands_step : Form → List (LexicalScope → Bool) → List (LexicalScope → Bool) → LexicalScope → Bool
stands_step f outer inner s = stands_itself s f && all_in s outer && all_in (around_inner f s) inner

-- whether every name in a form is bound where it stands
abbrev pub stands_in : Form → LexicalScope → Bool
stands_in f = fold stands_step f

abbrev pub stands : LexicalScope → Form → Bool
stands s f = stands_in f s

-- a form alone, and a procedure, which sees its own variables
abbrev pub stands_alone : Bool → Form → Bool
stands_alone in_method f = stands (alone [] in_method) f

abbrev pub is_alone : Bool → Option Procedure → Bool
is_alone in_method None = false
is_alone in_method (Some p) = stands (alone (variables p) in_method) p.body
