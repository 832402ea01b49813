-- Reaches, then the root's value. Assumes nothing.
use Rattle.games.specs.internal.Numbered.{numbered}
use Rattle.f64_games.proofs.Staging as staging
use Rattle.f64_games.proofs.best_value.Goals as goal

pub value-requires : goal.value-requires
value-requires c =
    let p = c.args.profile.now in
    staging.walkable (numbered p.tree.game) c.args.seat p.entries.now p.accepted c.requires.1 _ c.search_of-search.ensures.seat

pub returns : goal.returns
returns c =
    let p = c.args.profile.now in let s = c.search_of-search.ensures in
    let o = rw (s.others, s.seat, s.reach) at c.collect.ensures in
    let r = rw s.kept at c.clear.ensures in
    let v = rw (s.others, s.seat, s.heads, s.reach, s.kept) at c.value.ensures in
    staging.answered (numbered p.tree.game) c.args.seat p.entries.now p.accepted c.requires.1 _ c.entries.ensures _ _ _ _ c.requires.0.0 c.requires.0.1 o r _ v
