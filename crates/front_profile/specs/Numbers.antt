-- The numbers of what a form binds: from those of the next variable and exit in front of it on, and below those behind it.
use Rattle.std.specs.Prelude.{◌≡◌, ℕ, Bool, true, ◌&&◌, nat_le, nat_lt, List, [], ◌∷◌}
use Rattle.std.specs.List.{list_all}
use Rattle.lang_meaning.specs.Form.{Form, let_form, lambda, block, tagbody, parameters}
use Rattle.lang_meaning.specs.Mentions.{variables_bound}
use Rattle.lang_meaning.specs.Inside.{inside_form}
use Rattle.front_profile.specs.Definitions.{Definitions}

-- the variables and the exits that a form binds itself

abbrev pub variables_made : Form → List ℕ
variables_made (let_form bs body) = variables_bound bs
variables_made (lambda required rest body parts) = parameters required rest
variables_made f = []

abbrev pub exits_made : Form → List ℕ
exits_made (block x body) = x ∷ []
exits_made (tagbody x segments) = x ∷ []
exits_made f = []

-- from the one number on, and below the other
abbrev pub is_from : ℕ → ℕ → ℕ → Bool
is_from low high n = nat_le low n && nat_lt n high

abbrev pub numbers_fit : Definitions → Definitions → Form → Bool
numbers_fit g h f = list_all (is_from g.variables h.variables) (variables_made f) && list_all (is_from g.exits h.exits) (exits_made f)

-- in a form and all forms inside it
pub record Numbered (g h : Definitions) (f : Form) : Type 0 where
  pub numbers : list_all (numbers_fit g h) (inside_form f) ≡ true
