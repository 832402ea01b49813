-- A record, part by part. Assumes nothing.
use Rattle.std.proofs.Common.{refl, sym, ap, ◌+◌}
use Rattle.listing_records.proofs.Bytes.{record_long, record_stored}
use Rattle.listing_records.proofs.Record.put.Goals as goal

pub returns : goal.returns
returns c = let r = c.args.self.now in let w = c.args.to.now in
    let run = record_stored w.out.now r.key.now r.cards.now w.at r.seat c.unwrap_or.result r.legal c.requires.room _ _ c.padded.ensures c.padded-2.ensures _ _ c.copy_at.ensures c.copy_at-2.ensures in
    let e = sym c.unwrap_or.ensures in rw e (record { output = refl; next = ap (λ n. w.at + n) (sym (record_long r.seat c.unwrap_or.result r.legal r.key.now r.cards.now)); wrote = run })
