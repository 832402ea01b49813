-- The reply from the choices kept. Assumes nothing.
use borrow.Author.Rules.{rules}
use Rattle.games.specs.internal.Numbered.{numbered}
use Rattle.units_best.proofs.Staging as staging
use Rattle.units_best.proofs.write_best_reply.Goals as goal

pub write_reply-requires : goal.write_reply-requires
write_reply-requires c =
    let t = c.args.table.now in let g = numbered t.tree.game in (
      staging.walks g t.parts c.args.seat t.entries.now t.accepted c.requires.1 _ c.search_of-search.ensures.seat,
      search rules,
      staging.few-sets g t.parts c.args.seat t.entries.now t.accepted c.requires.1 c.args.words.now c.requires.0 _ c.sets.ensures,
    )

pub returns : goal.returns
returns c =
    let t = c.args.table.now in let g = numbered t.tree.game in let s = c.search_of-search.ensures in (
      staging.is_reply g t.parts c.args.seat t.entries.now t.accepted c.requires.1 c.args.words.now c.requires.0 _ c.sets.ensures
          c.write_reply.new.w c.args.out.now c.write_reply.new.out (rw (s.others, s.seat, s.heads, s.reach, s.kept) at c.write_reply.ensures),
      staging.best-reply g t.parts c.args.seat t.entries.now t.accepted c.requires.1,
    )
