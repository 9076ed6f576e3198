use Rattle.std.proofs.Common.{List, length, refl, ap, ◌∙◌}
use Rattle.std.proofs.lemmas.List.{with_items_is}
use Rattle.ancestry.specs.Asking.{Space, denied, first_slot}
use Rattle.ancestry.specs.Intake.{unless}
use Rattle.ancestry.specs.Bases.{octopus}
use Rattle.ancestry.specs.Ids.{num, nums}
use Rattle.ancestry.specs.declared.id.Id.{Id}
use Rattle.revision.proofs.Owning.{space_same}
use Rattle.revision.proofs.owned.OwnedWorkspace.octopus.Goals as goal

pub returns : goal.returns
returns g c =
    let H = g.H.Reader.commits c.args.history.now in
    let o = octopus H (num c.args.first) (nums c.args.others.now) in
    let l = space_same _ _ _ _ _ _ _ _ c.as_mut_slice.ensures.len c.as_mut_slice-2.ensures.len c.as_mut_slice-3.ensures.len c.as_mut_slice-4.ensures.len in
    record {
      same = c.ask_common.ensures.same;
      sizes = refl;
      answer = c.ask_common.ensures.answer ∙ ap (λ (s : Space). unless (denied s (length H) (length c.args.others.now)) o) l;
      slots = with_items_is c.args.self.now.answers c.ask_common.new.answers (c.ask_common.auto.answers ∙ c.as_mut_slice-4.ensures.len)
          ∙ c.ask_common.ensures.slots ∙ ap (λ (x : List Id). first_slot x c.ask_common.result) c.as_mut_slice-4.ensures.value;
    }
