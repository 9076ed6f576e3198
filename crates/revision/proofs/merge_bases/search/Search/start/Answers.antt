use Rattle.std.proofs.Common.{[], sym, ap, ◌∙◌, subst, length, arith}
use Rattle.std.proofs.lemmas.List.{length_push}
use Rattle.ancestry.proofs.Join.{place_says}
use Rattle.ancestry.specs.Ids.{num}
use Rattle.painting.specs.Listings.{listed}
use Rattle.revision.specs.Folding.{Spans}
use Rattle.revision.proofs.Folds.{start_held, start_none}
use Rattle.revision.proofs.merge_bases.search.Search.start.Goals as goal

pub push-requires : goal.push-requires
push-requires g c = omega (arith, ap length c.requires.none, c.requires.fits.results, (place_says _ _ c.in-Some.place (sym c.find.ensures.answer ∙ c.in-Some.is)).0)

pub returns-clause-fits : goal.returns-clause-fits
returns-clause-fits g c =
    let l = (place_says _ _ c.in-Some.place (sym c.find.ensures.answer ∙ c.in-Some.is)).0 in
    let f = c.requires.fits in
    record {
      marks = f.marks;
      queue = f.queue;
      results = omega (arith, f.results, c.push.ensures.room);
      stack = f.stack;
      few = omega (arith, l, ap length c.push.ensures.listed ∙ length_push _ _, ap length c.requires.none);
    }

pub returns-clause-spans : goal.returns-clause-spans
returns-clause-spans g c =
    start_held (g.H.Reader.commits c.args.history.now) (g.H.Reader.lawful c.args.history.now c.requires.whole).lawful (num c.args.first) c.in-Some.place (listed c.args.self.now.results) (listed c.push.new.self)
    (sym c.find.ensures.answer ∙ c.in-Some.is) c.requires.none c.push.ensures.listed

pub returns-in_default-clause-spans : goal.returns-in_default-clause-spans
returns-in_default-clause-spans g c = subst (Spans (g.H.Reader.commits c.args.history.now) (num c.args.first) []) (sym c.requires.none) (start_none _ (g.H.Reader.lawful c.args.history.now c.requires.whole).lawful (num c.args.first) (sym c.find.ensures.answer ∙ c.in_default.is))
