use Rattle.std.proofs.Common.{◌≡◌, ℕ, List, ◌++◌, subst, ◌∙◌}
use Rattle.std.specs.Prelude.{OnOk}
use Rattle.rv_image_file.proofs.NumberBytes.{bytes_of_one}
use Rattle.rv_image_file.proofs.numbers.put_number.Goals as goal

pub returns : goal.returns
returns c =
    let P : List ℕ → Type 0 = λ l. OnOk c.append.result (c.append.new.self ≡ c.args.out.now ++ l) in
    subst P (c.to_le_bytes.ensures ∙ bytes_of_one c.args.number) c.append.ensures.ok
