-- There are as many classes as are taken.
use Rattle.std.proofs.Common.{◌≤◌, length, sym}
use Rattle.std.proofs.lemmas.List.{length-take-le}
use Rattle.mid_start.proofs.fixed.fixed_words.Goals as goal

pub slice_bounds-push_all-end : goal.slice_bounds-push_all-end
slice_bounds-push_all-end c =
    let enough : 34 ≤ length c.as_slice.result.now = rw c.as_slice.ensures c.requires in
    sym (length-take-le 34 c.as_slice.result.now enough)
