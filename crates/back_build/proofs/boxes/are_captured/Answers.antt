-- The boxes of required variables and of the rest are those of all.
use Rattle.std.proofs.Common.{option_to_list, ℕ, ◌≡◌, ap, ◌∙◌, arith}
use Rattle.std.specs.Prelude.{nat_le}
use Rattle.flat_language.specs.FlatNodes.{homes}
use Rattle.flat_boxes.specs.Boxes.{boxes}
use Rattle.back_build.proofs.Counted.{boxes_behind}
use Rattle.back_build.proofs.boxes.are_captured.Goals as goal

pub returns : goal.returns
returns c =
    let both = boxes_behind c.args.procedure.now.required (option_to_list c.args.procedure.now.rest) in
    let all : c.in_ok-all.all ≡ boxes (homes c.args.procedure.now) =
    omega (arith, both, c.in_ok-all.ensures, c.boxes_among-required.ensures, c.boxes_of_rest.ensures) in
    ap (λ (n : ℕ). nat_le n c.in_ok-captured.captured) all ∙ ap (λ (n : ℕ). nat_le (boxes (homes c.args.procedure.now)) n) c.in_ok-captured.ensures
