-- Loops over the forms right inside a form that count them: what is counted, and what is left.
use Rattle.std.proofs.Common.{◌≡◌, true, false, ℕ, ◌+◌, ◌≤◌, min, max, if◌then◌else◌, List, map, ap, ◌∙◌, arith}
use Rattle.std.specs.List.{sum}
use Rattle.lang_meaning.specs.declared.nodes.Bodies.{Bodies}
use Rattle.lang_meaning.specs.Form.{Form}
use Rattle.lang_meaning.specs.Subforms.{outer, inner}
use Rattle.lang_meaning.specs.bridge.Walks.{folded}
use Rattle.lang_meaning.specs.Counts.{is_function, greatest, own_depth, depth, own_nodes, of_inner, nodes_with}
use Rattle.lang_meaning.specs.bridge.Smaller.{sizes}

-- the greatest depth of forms, in 32 bits
pub record IsDeepest (all left : List Form) (so_far : ℕ) : Type 0 where
  pub smaller : sizes left ≤ sizes all
  pub fits : so_far ≤ 4294967295
  pub seen : min (max so_far (greatest (map depth left))) 4294967295 ≡ min (greatest (map depth all)) 4294967295

-- the nodes of forms together, in 64 bits
pub record NodesAreCounted (bodies : Bodies) (all left : List Form) (so_far : ℕ) : Type 0 where
  pub smaller : sizes left ≤ sizes all
  pub fits : so_far ≤ 18446744073709551615
  pub counted : min (so_far + sum (map (nodes_with bodies) left)) 18446744073709551615 ≡ min (sum (map (nodes_with bodies) all)) 18446744073709551615

-- what is counted of a form, by the forms right inside it

pub depth_of_function : (f : Form) → is_function f ≡ true → depth f ≡ greatest (map depth (outer f)) + own_depth f
depth_of_function f e =
    folded (λ g outer inner. max (greatest outer) (if is_function g then 0 else greatest inner) + own_depth g) f
    ∙ ap (λ b. max (greatest (map depth (outer f))) (if b then 0 else greatest (map depth (inner f))) + own_depth f) e
    ∙ omega arith

pub depth_of_other : (f : Form) → is_function f ≡ false → depth f ≡ max (greatest (map depth (outer f))) (greatest (map depth (inner f))) + own_depth f
depth_of_other f e =
    folded (λ g outer inner. max (greatest outer) (if is_function g then 0 else greatest inner) + own_depth g) f
    ∙ ap (λ b. max (greatest (map depth (outer f))) (if b then 0 else greatest (map depth (inner f))) + own_depth f) e

pub nodes_folded : (bodies : Bodies) (f : Form)
    → nodes_with bodies f ≡ own_nodes f + sum (map (nodes_with bodies) (outer f)) + of_inner bodies f (sum (map (nodes_with bodies) (inner f)))
nodes_folded bodies f = folded (λ g outer inner. own_nodes g + sum outer + of_inner bodies g (sum inner)) f

pub deepest_of : (fs gs : List Form) (r : ℕ) → r ≡ min (greatest (map depth fs)) 4294967295 → fs ≡ gs → r ≡ min (greatest (map depth gs)) 4294967295
deepest_of fs gs r h e = h ∙ ap (λ xs. min (greatest (map depth xs)) 4294967295) e

pub nodes_of : (bodies : Bodies) (fs gs : List Form) (r : ℕ) → r ≡ min (sum (map (nodes_with bodies) fs)) 18446744073709551615 → fs ≡ gs
    → r ≡ min (sum (map (nodes_with bodies) gs)) 18446744073709551615
nodes_of bodies fs gs r h e = h ∙ ap (λ xs. min (sum (map (nodes_with bodies) xs)) 18446744073709551615) e
