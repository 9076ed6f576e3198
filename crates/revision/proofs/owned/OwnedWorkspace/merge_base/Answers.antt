use Rattle.std.proofs.Common.{length, refl, ap, ◌∙◌}
use Rattle.std.proofs.lemmas.List.{with_items_is}
use Rattle.ancestry.specs.Asking.{Space, denied}
use Rattle.ancestry.specs.Intake.{unless}
use Rattle.ancestry.specs.Bases.{bases}
use Rattle.ancestry.specs.Ids.{num, nums}
use Rattle.revision.proofs.Owning.{space_same, listed_same}
use Rattle.revision.proofs.owned.OwnedWorkspace.merge_base.Goals as goal

pub returns : goal.returns
returns g c =
    let H = g.H.Reader.commits c.args.history.now in
    let n = length (bases H (num c.args.first) (nums c.args.others.now)) in
    let l = space_same _ _ _ _ _ _ _ _ c.as_mut_slice.ensures.len c.as_mut_slice-2.ensures.len c.as_mut_slice-3.ensures.len c.as_mut_slice-4.ensures.len in
    record {
      same = c.ask_bases.ensures.same;
      sizes = refl;
      answer = c.ask_bases.ensures.answer ∙ ap (λ (s : Space). unless (denied s (length H) (length c.args.others.now)) n) l;
      slots = listed_same _ _ _ _ _ _ c.as_mut_slice-4.ensures.value (with_items_is c.args.self.now.answers c.ask_bases.new.answers (c.ask_bases.auto.answers ∙ c.as_mut_slice-4.ensures.len)) c.ask_bases.ensures.slots;
    }
