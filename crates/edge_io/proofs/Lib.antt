mod AppendsLemmas
mod ReaderLemmas
