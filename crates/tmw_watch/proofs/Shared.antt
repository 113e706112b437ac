-- What the proofs of this crate take from the libraries, from the crates below and from its specs.
pub use Rattle.std.proofs.Common.{List, [], ap, append_assoc, arith, get_or, inl, inr, length, refl, rules, subst, sym, vec_capacity, vec_len, ℕ, ◌++◌, ◌+◌, ◌-◌, ◌<◌, ◌^◌, ◌∙◌, ◌∷◌, ◌≡◌, ◌≤◌}
pub use Rattle.std.proofs.lemmas.List.{get_or-map, length-map, length_push}
pub use Rattle.std.proofs.lemmas.List.Sorted.{All-permutation, IsPermutation-map, IsPermutation-refl, IsPermutation-sym, IsPermutation-trans, length_permutation}
pub use Rattle.std.specs.List.{All, SwappedAt}
pub use Rattle.std.specs.List.Sorted.{IsPermutation}
pub use Rattle.std.specs.Vec.Iter.{into_iter_items, into_iter_len}
pub use Rattle.tmw_monitor.specs.Fits.{Fits, rules_of}
pub use Rattle.tmw_pump.proofs.HeadlineProof.{gives_headline, gives_rest}
pub use Rattle.tmw_pump.specs.Headline.{GivesHeadline, Headline, IsLogOf}
pub use Rattle.tmw_pump.specs.Rest.{IsRested, RestIs, all_of, rest_in}
pub use Rattle.tmw_pump.specs.declared.front.Front.{Front}
pub use Rattle.tmw_ring.specs.RingEnds.{ReaderIs, RingIs, WriterIs, WriterOf}
pub use Rattle.tmw_ring.specs.Settle.{AreInOrder, IsSettled}
pub use Rattle.tmw_watch.specs.Close.{AreAll, AreNotAll, HasEnded, IsClosed, IsJudged, IsMissing, writers_of}
pub use Rattle.tmw_watch.specs.Open.{AreOf, IsNewRecorder}
pub use Rattle.tmw_watch.specs.WatchParts.{watch_pump}
pub use Rattle.tmw_watch.specs.declared.recorder.Recorder.{Recorder}
