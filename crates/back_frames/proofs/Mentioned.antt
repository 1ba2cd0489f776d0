-- How often a form names variables: no more than it counts, and once for each of their registers that it names.
use Rattle.std.proofs.Common.{◌≡◌, ℕ, ◌+◌, ◌≤◌, List, [], ◌∷◌, arith}
use Rattle.flat_language.specs.FlatForm.{FlatForm, local, set_local, make_function}
use Rattle.flat_language.specs.FlatNodes.{own_nodes, nodes}
use Rattle.back_lowering.specs.Mentions.{own_mentions, mentions}
use Rattle.back_frames.proofs.Nodes.{nodes_are}
use Rattle.back_frames.proofs.FormsIn.{forms_in, tally, total_is}
use Rattle.back_frames.proofs.Bounds.{own_names, own_marks}

pub marks_are : (fs : List FlatForm) → tally own_marks fs ≡ tally own_names fs + tally own_mentions fs
marks_are [] = omega arith
marks_are (f ∷ fs) = let more = marks_are fs in omega arith

own_few : (f : FlatForm) → own_mentions f ≤ own_nodes f
own_few (local p) = omega arith
own_few (set_local p f) = omega arith
own_few (make_function p parts) = omega arith
own_few f = omega arith

all_few : (fs : List FlatForm) → tally own_mentions fs ≤ tally own_nodes fs
all_few [] = omega arith
all_few (f ∷ fs) = let first = own_few f in let more = all_few fs in omega arith

-- **no more than its nodes**
pub mentions_few : (f : FlatForm) → mentions f ≤ nodes f
mentions_few f =
    let counted = nodes_are f in
    let own = total_is own_nodes f in
    let named = total_is own_mentions f in
    let few = all_few (forms_in f) in
    omega arith
