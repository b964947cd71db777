-- A file whose header says another END is read as before but for that.
use Rattle.std.proofs.Common.{◌≡◌, inl, inr, ℕ, ◌<◌, ◌≤◌, ◌^◌, Bool, false, List, Ok, Some, refl, sym, subst, arith}
use Rattle.std.specs.{Prelude.{MatchBool}, List.{slice_get}}
use Rattle.byteorder.specs.Numbers.{length-bytes_high_first}
use Rattle.rio_head.specs.{Form.{is_large_head}, Head.{head_at}, declared.head.FileHead.{FileHead}}
use Rattle.rio_dir.specs.Unborn.{is_unborn}
use Rattle.rio_chain.specs.Segments.{IsChain, IsFirst, Link, chain_end}
use Rattle.rio_chain.proofs.{Chains.{Parts, chain_of, end_keeps, parts_of, plain_held}, Words.{word_keeps, word_of_bytes, word_one, word_within}}
use Rattle.rio_machine.specs.State.{State, empty_state}
use Rattle.rio_state.specs.{Left.{IsLeftAs, open_end}, Reads.{ReadsAsMade, ReadsAsState}}
use Rattle.rio_close.specs.EndWord.{ChainIgnoresEnd, HeadSaysEnd, MarkKeepsState, MarkOpensFile, SaysEnd, StateIgnoresEnd}
use Rattle.rio_close.proofs.LeftImages.{reads_made}
use Rattle.rio_close.proofs.{Numbers.{number_keeps, number_of_bytes}, SmallHead.{IsFixed, SmallHead, head_changes, small_head, small_read}}

module _ (old new : List ℕ) (end : ℕ) (says : SaysEnd end old new) where
  -- bytes in front of the word and behind it stay
  stays_before : (i x : ℕ) → i < 12 → slice_get old i ≡ Some x → slice_get new i ≡ Some x
  stays_before i x lt was = says.outside i x (inl lt) was

  stays_behind : (i x : ℕ) → 16 ≤ i → slice_get old i ≡ Some x → slice_get new i ≡ Some x
  stays_behind i x le was = says.outside i x (inr (omega (arith, le, length-bytes_high_first 4 end))) was

  fixed : (i x : ℕ) → IsFixed i → slice_get old i ≡ Some x → slice_get new i ≡ Some x
  fixed i x (inl low) was = stays_before i x low was
  fixed i x (inr (inl mid)) was = stays_behind i x (omega (arith, mid.0)) was
  fixed i x (inr (inr high)) was = stays_behind i x (omega (arith, high.0)) was

  first_stays : (bytes : List ℕ) → IsFirst old bytes → IsFirst new bytes
  first_stays bytes f = record {
    head = f.head;
    key = f.key;
    class = f.class;
    directory = f.directory;
    texts = f.texts;
    room = f.room;
    small = f.small;
    nbytes_name = word_keeps old new 28 f.directory.place (λ i x low high was. stays_behind i x (omega (arith, low)) was) f.nbytes_name;
  }

  module _ (links : List Link) (chain : IsChain links old) where
    parts : Parts links old
    parts = parts_of links old chain

    pub chain_stays : IsChain links new
    chain_stays = chain_of links new (record {
      plain = plain_held old new 100 links (λ bytes low. first_stays bytes) (λ i x low high was. stays_behind i x (omega (arith, low)) was) parts.plain;
      spaced = parts.spaced;
      ends = end_keeps old new (chain_end links) (λ i x low high was. let later = parts.ends.later in stays_behind i x (omega (arith, low, later)) was) parts.ends;
    })

    module _ (fits : end < 2 ^ 32) (head : FileHead) (is : head_at old ≡ Ok head) (small : is_large_head head.version ≡ false) where
      numbers : SmallHead old head
      numbers = small_head old head (omega (arith, word_within old (chain_end links) 0 chain.ends.zero_word, chain.ends.later)) is small

      -- the other numbers of the header
      pub head_says : SmallHead new (record head { end = end })
      head_says =
          head_changes old new head numbers fixed end head.seek_free head.nbytes_free head.nfree head.seek_info head.nbytes_info
          (number_of_bytes new 12 end fits says.written)
          (number_keeps 3 old new 16 head.seek_free (λ i x low high was. stays_behind i x low was) numbers.seek_free)
          (number_keeps 3 old new 20 head.nbytes_free (λ i x low high was. stays_behind i x (omega (arith, low)) was) numbers.nbytes_free)
          (number_keeps 3 old new 24 head.nfree (λ i x low high was. stays_behind i x (omega (arith, low)) was) numbers.nfree)
          (number_keeps 3 old new 37 head.seek_info (λ i x low high was. stays_behind i x (omega (arith, low)) was) numbers.seek_info)
          (number_keeps 3 old new 41 head.nbytes_info (λ i x low high was. stays_behind i x (omega (arith, low)) was) numbers.nbytes_info)

pub head_says_end : HeadSaysEnd
head_says_end old new links head end fits says chain is small = small_read new (record head { end = end }) (head_says old new end says links chain fits head is small)

pub chain_ignores_end : ChainIgnoresEnd
chain_ignores_end old new links end says chain = chain_stays old new end says links chain

made_state : (file : List ℕ) (m : State) → is_unborn file ≡ false → ReadsAsState file m → ReadsAsMade file m
made_state file m made reads = subst (λ (b : Bool). MatchBool b (m ≡ empty_state) (ReadsAsMade file m)) made reads

pub state_ignores_end : StateIgnoresEnd
state_ignores_end old new m end fits says made reads =
    let r = made_state old m made reads in
    let head = head_says old new end says r.links r.chain fits r.head r.head_is r.small in
    reads_made new (record r.head { end = end }) r.links m head (chain_stays old new end says r.links r.chain) r.records

open_fits : open_end < 2 ^ 32
open_fits = omega arith

pub mark_opens_file : MarkOpensFile
mark_opens_file old new links head says chain is small = record {
  head = record head { end = open_end };
  head_is = head_says_end old new links head open_end open_fits says chain is small;
  small = small;
  end = refl;
  name = refl;
}

pub mark_keeps_state : MarkKeepsState
mark_keeps_state old new m (inl same) made left = subst (IsLeftAs m) (sym same) left
mark_keeps_state old new m (inr says) made left = record {
  reads = state_ignores_end old new m open_end open_fits says made left.reads;
  closed = λ word root has other. absurd (other (word_one new 12 word open_end has (word_of_bytes new 12 open_end open_fits says.written)));
}
