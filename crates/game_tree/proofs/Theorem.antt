-- The statements of specs/Theorem.antt, each by its proof: what other crates cite. Nothing is assumed.
pub use Rattle.game_tree.proofs.Units.{units_exact, units-add_up}
pub use Rattle.game_tree.proofs.Best.{lowest_of_greatest, best-decides, decides-alike, best_optimal}
pub use Rattle.game_tree.proofs.Against.{recall_kept, own_entries-free}
pub use Rattle.game_tree.proofs.Unbeaten.{optimal_unbeaten}
pub use Rattle.game_tree.proofs.Pure.{pure-worth}
pub use Rattle.game_tree.proofs.Link.{link, link_in_units, finer-units_exact}
pub use Rattle.game_tree.proofs.Rival.{no_finer-rival_better, no_rival_better, own_rival, reply_is_rival, reply-worth}
pub use Rattle.game_tree.proofs.Bounds.{members-units, set_sum_bound, value_bound, worth_bound}
pub use Rattle.game_tree.proofs.Small.{small_premises, small-choices, small-numbers, small_no_units, small_no_rival}
