mod Counting
mod Answering
