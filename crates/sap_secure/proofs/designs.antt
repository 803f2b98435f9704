mod Sampled
mod Rising
